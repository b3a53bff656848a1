-- The costs of area border routers with one more entry, and the least cost with one more source.
use Rattle.std.proofs.Common.{◌≡◌, ℕ, ◌+◌, ◌<◌, ◌^◌, Bool, true, false, cond, List, [], ◌∷◌, ◌++◌, Option, Some, None, IfSome, is_some, refl, sym, ap, subst, ◌∙◌, true≢false, arith}
use Rattle.std.specs.Prelude.{◌&&◌, nat_lt, if◌then◌else◌}
use Rattle.std.specs.List.{All, cons_option, filter_map, find}
use Rattle.std.specs.Cmp.{Equal-is, unsigned_ties}
use Rattle.std.specs.Map.{lookup}
use Rattle.std.specs.Option.{option_map, option_or}
use Rattle.std.specs.Ordering.{eq_by_cmp, is_lt, nat_cmp}
use Rattle.std.proofs.lemmas.Cmp.{nat_cmp_total}
use Rattle.std.proofs.lemmas.List.{append-nil}
use Rattle.std.proofs.lemmas.List.Elements.{All-head, All-tail, filter_map-append}
use Rattle.std.proofs.lemmas.List.Folds.{find-append}
use Rattle.lsa_codec.specs.declared.address.RouterId.{RouterId}
use Rattle.lsa_codec.specs.Order.{router_cmp}
use Rattle.lsa_codec.proofs.OrderLemmas.{router_exact}
use Rattle.area_graph.specs.Least.{later, least}
use Rattle.area_routes.specs.declared.entry.EntryKind.TheVariants.{Border}
use Rattle.area_routes.specs.Inter.{border_of, same_kind, same_router}
use Rattle.area_routes.specs.Values.{EntriesBelow, EntryValue}
use Rattle.best_ways.proofs.LeastLemmas.{least_push}
use Rattle.summary_metrics.specs.declared.sources.Source.{Source}
use Rattle.summary_metrics.specs.SummaryMetrics.{HasCosts}
use Rattle.summary_metrics.specs.steps.AnnouncedCosts.{CostsBelow, cost_from, cost_over, lesser_cost, announced_cost, announced_from}

-- ---- one more entry

abbrev Costs : Type 0
Costs = List (RouterId × ℕ)

abbrev cost_at : Costs → RouterId → Option ℕ
cost_at costs q = lookup (eq_by_cmp router_cmp q) costs

map_or : (o p : Option EntryValue) → option_map (λ e. e.cost) (option_or o p) ≡ option_or (option_map (λ e. e.cost) o) (option_map (λ e. e.cost) p)
map_or None p = refl
map_or (Some e) p = refl

or_none : (o : Option ℕ) → option_or o None ≡ o
or_none None = refl
or_none (Some c) = refl

or_found : (o p : Option ℕ) → is_some o ≡ true → option_or o p ≡ o
or_found None p h = absurd (true≢false (sym h))
or_found (Some c) p h = refl

not_found : (o : Option ℕ) → is_some o ≡ false → o ≡ None
not_found None h = refl
not_found (Some c) h = absurd (true≢false h)

module _ (entries : List EntryValue) (e : EntryValue) (old : Costs) (before : HasCosts entries old) where
  -- the cost of the entry, if it is that of the router as an area border router
  abbrev cost_if : Bool → Option ℕ
  cost_if b = cond b (Some e.cost) None

  one_more : (q : RouterId) → option_map (λ x. x.cost) (border_of (entries ++ e ∷ []) q)
      ≡ option_or (cost_at old q) (cost_if (same_kind e.kind Border && same_router e.router q))
  one_more q =
      ap (option_map (λ x. x.cost)) (find-append (λ x. same_kind x.kind Border && same_router x.router q) entries (e ∷ []))
      ∙ map_or (border_of entries q) (cond (same_kind e.kind Border && same_router e.router q) (Some e) None)
      ∙ (λ i. option_or (sym (before q) i) (by (same_kind e.kind Border && same_router e.router q) i))
    where
      by : (b : Bool) → option_map (λ x. x.cost) (cond b (Some e) None) ≡ cost_if b
      by true = refl
      by false = refl

  tie : (q : RouterId) → same_router e.router q ≡ eq_by_cmp router_cmp e.router q
  tie q = unsigned_ties e.router.0 q.0

  same : (q : RouterId) → same_router e.router q ≡ true → e.router ≡ q
  same q h = router_exact e.router q ((Equal-is (router_cmp e.router q)).0 (sym (tie q) ∙ h))

  -- an entry of another kind
  pub other_kind : same_kind e.kind Border ≡ false → HasCosts (entries ++ e ∷ []) old
  other_kind h q = sym (one_more q ∙ ap (λ b. option_or (cost_at old q) (cost_if (b && same_router e.router q))) h ∙ or_none (cost_at old q))

  -- an entry whose router has one
  pub again : is_some (cost_at old e.router) ≡ true → HasCosts (entries ++ e ∷ []) old
  again h q = sym (one_more q ∙ by (same_kind e.kind Border) (same_router e.router q) refl)
    where
      by : (k t : Bool) → same_router e.router q ≡ t → option_or (cost_at old q) (cost_if (k && t)) ≡ cost_at old q
      by false t s = or_none (cost_at old q)
      by true false s = or_none (cost_at old q)
      by true true s = or_found (cost_at old q) (Some e.cost) (ap (λ r. is_some (cost_at old r)) (sym (same q s)) ∙ h)

  -- a new entry
  pub added : (new : Costs) → same_kind e.kind Border ≡ true → is_some (cost_at old e.router) ≡ false
      → ((q : RouterId) → cost_at new q ≡ cond (eq_by_cmp router_cmp e.router q) (Some e.cost) (cost_at old q)) → HasCosts (entries ++ e ∷ []) new
  added new k absent after q =
      after q ∙ ap (λ b. cond b (Some e.cost) (cost_at old q)) (sym (tie q)) ∙ by (same_router e.router q) refl
      ∙ sym (one_more q ∙ ap (λ b. option_or (cost_at old q) (cost_if (b && same_router e.router q))) k)
    where
      by : (t : Bool) → same_router e.router q ≡ t → cond t (Some e.cost) (cost_at old q) ≡ option_or (cost_at old q) (cost_if (same_router e.router q))
      by true s =
          sym (ap (λ o. option_or o (cost_if (same_router e.router q))) (ap (cost_at old) (sym (same q s)) ∙ not_found (cost_at old e.router) absent)
          ∙ ap cost_if s)
      by false s = sym (ap (λ b. option_or (cost_at old q) (cost_if b)) s ∙ or_none (cost_at old q))

-- the first cost was replaced by another, and put back
pub put_back : (router : RouterId) (cost first : ℕ) (old between new : Costs) → cost_at old router ≡ Some first
    → ((q : RouterId) → cost_at between q ≡ cond (eq_by_cmp router_cmp router q) (Some cost) (cost_at old q))
    → ((q : RouterId) → cost_at new q ≡ cond (eq_by_cmp router_cmp router q) (Some first) (cost_at between q))
    → (q : RouterId) → cost_at new q ≡ cost_at old q
put_back router cost first old between new was there after q = after q ∙ by (eq_by_cmp router_cmp router q) refl (there q)
  where
    by : (b : Bool) → eq_by_cmp router_cmp router q ≡ b → cost_at between q ≡ cond b (Some cost) (cost_at old q)
        → cond b (Some first) (cost_at between q) ≡ cost_at old q
    by true e h = sym (ap (cost_at old) (sym (router_exact router q ((Equal-is (router_cmp router q)).0 e))) ∙ was)
    by false e h = h

-- ---- costs are small

found_has : {X : Type 0} (P : X → Type 0) (p : X → Bool) (xs : List X) → All P xs → IfSome (find p xs) P
found_has P p [] a = tt
found_has P p (x ∷ xs) a = by (p x) (found_has P p xs (All-tail P x xs a))
  where
    by : (b : Bool) → IfSome (find p xs) P → IfSome (cond b (Some x) (find p xs)) P
    by true rest = All-head P x xs a
    by false rest = rest

pub costs_below : (entries : List EntryValue) (costs : Costs) → EntriesBelow (2 ^ 33) entries → HasCosts entries costs → CostsBelow costs
costs_below entries costs small has q =
    subst (λ o. IfSome o (λ cost. cost < 2 ^ 33)) (sym (has q))
    (by (border_of entries q) (found_has (λ e. e.cost < 2 ^ 33) (λ e. same_kind e.kind Border && same_router e.router q) entries small))
  where
    by : (o : Option EntryValue) → IfSome o (λ e. e.cost < 2 ^ 33) → IfSome (option_map (λ e. e.cost) o) (λ cost. cost < 2 ^ 33)
    by None h = tt
    by (Some e) h = h

-- ---- one more source

module _ (router : RouterId) (costs : Costs) where
  pub announced_push : (ss : List Source) (s : Source) → announced_from router costs (ss ++ s ∷ []) ≡ lesser_cost (announced_from router costs ss) (cost_from router costs s)
  announced_push ss s = ap (least nat_cmp) (filter_map-append (cost_from router costs) ss (s ∷ [])) ∙ by (cost_from router costs s)
    where
      some : List ℕ
      some = filter_map (cost_from router costs) ss

      no_more : (o : Option ℕ) → o ≡ lesser_cost o None
      no_more None = refl
      no_more (Some c) = refl

      lesser_later : (o : Option ℕ) (c : ℕ) → Some (later nat_cmp o c) ≡ lesser_cost o (Some c)
      lesser_later None c = refl
      lesser_later (Some m) c = ap (λ b. Some (cond b c m)) (below c m)
        where
          below : (a b : ℕ) → is_lt (nat_cmp a b) ≡ nat_lt a b
          below a b = search arith

      by : (o : Option ℕ) → least nat_cmp (some ++ cons_option o []) ≡ lesser_cost (least nat_cmp some) o
      by None = ap (least nat_cmp) (append-nil some) ∙ no_more (least nat_cmp some)
      by (Some c) = least_push nat_cmp_total some c ∙ lesser_later (least nat_cmp some) c

  -- by the entries that the costs are of
  module _ (entries : List EntryValue) (has : HasCosts entries costs) where
    from_over : (s : Source) → cost_from router costs s ≡ cost_over router entries s
    from_over s =
        ap (λ o. if same_router s.originator router then None else option_map (λ cost. cost + s.metric) o) (has s.originator)
        ∙ ap (λ o. if same_router s.originator router then None else o) (by (border_of entries s.originator))
      where
        by : (o : Option EntryValue) → option_map (λ cost. cost + s.metric) (option_map (λ e. e.cost) o) ≡ option_map (λ e. e.cost + s.metric) o
        by None = refl
        by (Some e) = refl

    costs_over : (ss : List Source) → filter_map (cost_from router costs) ss ≡ filter_map (cost_over router entries) ss
    costs_over [] = refl
    costs_over (s ∷ ss) = λ i. cons_option (from_over s i) (costs_over ss i)

    pub from_announced : (ss : List Source) → announced_from router costs ss ≡ announced_cost router entries ss
    from_announced ss = ap (least nat_cmp) (costs_over ss)
