-- Entries by their routers, with one more entry.
use Rattle.std.proofs.Common.{◌≡◌, Bool, true, false, cond, List, [], ◌∷◌, ◌++◌, Option, Some, None, is_some, refl, sym, ap, ◌∙◌}
use Rattle.std.specs.Prelude.{◌&&◌}
use Rattle.std.specs.Map.{lookup}
use Rattle.std.specs.Option.{option_or}
use Rattle.std.specs.Cmp.{unsigned_ties}
use Rattle.std.specs.Ordering.{eq_by_cmp, is_eq}
use Rattle.std.specs.declared.cmp.Ordering.{Ordering}
use Rattle.std.specs.declared.cmp.Ordering.TheVariants.{Less, Equal, Greater}
use Rattle.std.proofs.lemmas.List.Folds.{find-append}
use Rattle.lsa_codec.specs.declared.address.RouterId.{RouterId}
use Rattle.area_routes.specs.declared.entry.EntryKind.{EntryKind}
use Rattle.area_routes.specs.steps.EntryIndex.{IsIndexOf}
use Rattle.area_routes.specs.Inter.{find_entry, same_kind, same_router}
use Rattle.lsa_codec.specs.Order.{router_cmp}
use Rattle.area_routes.specs.Values.{EntryValue}
use Rattle.lsa_codec.proofs.OrderLemmas.{router_exact}

or_none : {X : Type 0} (o : Option X) → option_or o None ≡ o
or_none None = refl
or_none (Some x) = refl

or_found : {X : Type 0} (o p : Option X) → is_some o ≡ true → option_or o p ≡ o
or_found None p h = cc
or_found (Some x) p h = refl

not_found : {X : Type 0} (o : Option X) → is_some o ≡ false → o ≡ None
not_found None h = refl
not_found (Some x) h = cc

equal : (r : Ordering) → is_eq r ≡ true → r ≡ Equal
equal Less h = cc
equal Equal h = refl
equal Greater h = cc

module _ (kind : EntryKind) (entries : List EntryValue) (e : EntryValue) where
  -- the entries with one more
  one_more : (q : RouterId) → find_entry kind (entries ++ e ∷ []) q ≡ option_or (find_entry kind entries q)
      (cond (same_kind e.kind kind && same_router e.router q) (Some e) None)
  one_more q = find-append (λ e. same_kind e.kind kind && same_router e.router q) entries (e ∷ [])

  module _ (old : List (RouterId × EntryValue)) (before : IsIndexOf kind entries old) where
    -- an entry of another kind
    pub other_kind : same_kind e.kind kind ≡ false → IsIndexOf kind (entries ++ e ∷ []) old
    other_kind h q =
        before q ∙ sym (one_more q ∙ ap (λ b. option_or (find_entry kind entries q) (cond (b && same_router e.router q) (Some e) None)) h
        ∙ or_none (find_entry kind entries q))

    tie : (q : RouterId) → same_router e.router q ≡ is_eq (router_cmp e.router q)
    tie q = unsigned_ties e.router.0 q.0

    -- an entry whose router has one
    pub again : is_some (lookup (eq_by_cmp router_cmp e.router) old) ≡ true → IsIndexOf kind (entries ++ e ∷ []) old
    again h q = before q ∙ sym (one_more q ∙ by (same_kind e.kind kind) (same_router e.router q) refl)
      where
        there : same_router e.router q ≡ true → is_some (find_entry kind entries q) ≡ true
        there t = ap is_some (sym (before q) ∙ ap (λ r. lookup (eq_by_cmp router_cmp r) old)
            (sym (router_exact e.router q (equal (router_cmp e.router q) (sym (tie q) ∙ t))))) ∙ h

        by : (k t : Bool) → same_router e.router q ≡ t → option_or (find_entry kind entries q) (cond (k && t) (Some e) None) ≡ find_entry kind entries q
        by false t s = or_none (find_entry kind entries q)
        by true false s = or_none (find_entry kind entries q)
        by true true s = or_found (find_entry kind entries q) (Some e) (there s)

    -- a new entry
    pub added : (new : List (RouterId × EntryValue)) → same_kind e.kind kind ≡ true → is_some (lookup (eq_by_cmp router_cmp e.router) old) ≡ false
        → ((q : RouterId) → lookup (eq_by_cmp router_cmp q) new ≡ cond (is_eq (router_cmp e.router q)) (Some e)
        (lookup (eq_by_cmp router_cmp q) old)) → IsIndexOf kind (entries ++ e ∷ []) new
    added new k absent after q =
        after q ∙ by (same_router e.router q) refl
        ∙ sym (one_more q ∙ ap (λ b. option_or (find_entry kind entries q) (cond (b && same_router e.router q) (Some e) None)) k)
      where
        by : (t : Bool) → same_router e.router q ≡ t → cond (is_eq (router_cmp e.router q)) (Some e)
            (lookup (eq_by_cmp router_cmp q) old) ≡ option_or (find_entry kind entries q) (cond (same_router e.router q) (Some e) None)
        by true s =
            let same = router_exact e.router q (equal (router_cmp e.router q) (sym (tie q) ∙ s)) in
            let none = sym (before q) ∙ ap (λ r. lookup (eq_by_cmp router_cmp r) old) (sym same)
            ∙ not_found (lookup (eq_by_cmp router_cmp e.router) old) absent in
            ap (λ b. cond b (Some e) (lookup (eq_by_cmp router_cmp q) old)) (sym (tie q) ∙ s)
            ∙ sym (ap (λ o. option_or o (cond (same_router e.router q) (Some e) None)) none ∙ ap (λ b. option_or None (cond b (Some e) None)) s)
        by false s =
            ap (λ b. cond b (Some e) (lookup (eq_by_cmp router_cmp q) old)) (sym (tie q) ∙ s) ∙ before q
            ∙ sym (ap (λ b. option_or (find_entry kind entries q) (cond b (Some e) None)) s ∙ or_none (find_entry kind entries q))
