-- The map of preferred entries, with one more entry.
use Rattle.std.proofs.Common.{◌≡◌, ℕ, ◌+◌, Bool, true, false, cond, List, take, Option, None, Some, refl, sym, ap, subst, ◌∙◌}
use Rattle.std.specs.Prelude.{◌&&◌}
use Rattle.std.specs.List.{slice_get}
use Rattle.std.specs.Ordering.{eq_by_cmp}
use Rattle.std.proofs.lemmas.Bool.{eq-eqb, eqb-true, false≢true}
use Rattle.std.proofs.lemmas.Cmp.{eq_by_cmp_equiv}
use Rattle.std.proofs.lemmas.Map.Views.{tells_apart}
use Rattle.std.proofs.lemmas.Option.{get_or_from_slice_get, slice_get_within}
use Rattle.lsa_codec.specs.declared.address.RouterId.{RouterId}
use Rattle.area_graph.specs.Least.{later}
use Rattle.area_routes.specs.Inter.{same_router}
use Rattle.lsa_codec.specs.Order.{router_cmp}
use Rattle.area_routes.specs.Values.{EntryValue}
use Rattle.lsa_codec.proofs.OrderLemmas.{router_exact, router_total}
use Rattle.external_routes.specs.Choose.{is_asbr, is_asbr_kind, preference, preferred}
use Rattle.external_routes.specs.steps.Lookup.{comes_first, entry_at}
use Rattle.external_routes.proofs.First.{first_more}
use Rattle.external_routes.proofs.Orders.{preference_total}

module _ (entries : List EntryValue) (i : ℕ) (x : EntryValue) (here : slice_get entries i ≡ Some x) (old : RouterId → Option ℕ)
    (before : (asbr : RouterId) → entry_at entries (old asbr) ≡ preferred (take i entries) asbr) where
  -- with one more entry
  abbrev more : RouterId → Option EntryValue
  more asbr = cond (is_asbr asbr x) (Some (later preference (preferred (take i entries) asbr) x)) (preferred (take i entries) asbr)

  preferred_more : (asbr : RouterId) → preferred (take (i + 1) entries) asbr ≡ more asbr
  preferred_more asbr = first_more preference_total (is_asbr asbr) entries i x
      (slice_get_within entries i x here) (sym (get_or_from_slice_get entries i x x here))

  -- the entry is not one of the router
  stays : (asbr : RouterId) → is_asbr asbr x ≡ false → entry_at entries (old asbr) ≡ preferred (take (i + 1) entries) asbr
  stays asbr other = before asbr
      ∙ sym (preferred_more asbr ∙ ap (λ b. cond b (Some (later preference (preferred (take i entries) asbr) x)) (preferred (take i entries) asbr)) other)

  -- the other entry comes first
  after : (asbr : RouterId) → is_asbr asbr x ≡ true → comes_first x (entry_at entries (old asbr)) ≡ false
      → entry_at entries (old asbr) ≡ preferred (take (i + 1) entries) asbr
  after asbr own late =
      by (entry_at entries (old asbr)) (before asbr) late
      ∙ sym (preferred_more asbr ∙ ap (λ b. cond b (Some (later preference (preferred (take i entries) asbr) x)) (preferred (take i entries) asbr)) own)
    where
      by : (o : Option EntryValue) → o ≡ preferred (take i entries) asbr → comes_first x o ≡ false
          → o ≡ Some (later preference (preferred (take i entries) asbr) x)
      by None is h = cc
      by (Some b) is h = sym (ap (λ o. Some (later preference o x)) (sym is) ∙ ap (λ c. Some (cond c x b)) h)

  -- the entry comes first
  ahead : (asbr : RouterId) → is_asbr asbr x ≡ true → comes_first x (entry_at entries (old asbr)) ≡ true → Some x ≡ preferred (take (i + 1) entries) asbr
  ahead asbr own first =
      sym (preferred_more asbr ∙ ap (λ b. cond b (Some (later preference (preferred (take i entries) asbr) x)) (preferred (take i entries) asbr)) own
      ∙ ap (λ o. Some (later preference o x)) (sym (before asbr)) ∙ by (entry_at entries (old asbr)) first)
    where
      by : (o : Option EntryValue) → comes_first x o ≡ true → Some (later preference o x) ≡ Some x
      by None h = refl
      by (Some b) h = ap (λ c. Some (cond c x b)) h

  -- by whether the entry is of this router
  each : (P : RouterId → Type 0) → P x.router → ((asbr : RouterId) → same_router x.router asbr ≡ false → P asbr) → (asbr : RouterId) → P asbr
  each P own other asbr = by (same_router x.router asbr) refl
    where
      by : (b : Bool) → same_router x.router asbr ≡ b → P asbr
      by true is = subst P (ap (λ (n : ℕ). record { 0 = n }) (eqb-true x.router.0 asbr.0 is)) own
      by false is = other asbr is

  apart : (asbr : RouterId) → same_router x.router asbr ≡ false → is_asbr asbr x ≡ false
  apart asbr other = ap (λ b. is_asbr_kind x.kind && b) other ∙ by (is_asbr_kind x.kind)
    where
      by : (b : Bool) → (b && false) ≡ false
      by true = refl
      by false = refl

  -- the map stays
  pub left_is : is_asbr x.router x ≡ false → (asbr : RouterId) → entry_at entries (old asbr) ≡ preferred (take (i + 1) entries) asbr
  left_is none = each (λ asbr. entry_at entries (old asbr) ≡ preferred (take (i + 1) entries) asbr)
      (stays x.router none) (λ asbr other. stays asbr (apart asbr other))

  pub left_late : is_asbr x.router x ≡ true → comes_first x (entry_at entries (old x.router)) ≡ false
      → (asbr : RouterId) → entry_at entries (old asbr) ≡ preferred (take (i + 1) entries) asbr
  left_late own late = each (λ asbr. entry_at entries (old asbr) ≡ preferred (take (i + 1) entries) asbr)
      (after x.router own late) (λ asbr other. stays asbr (apart asbr other))

  -- the entry's index is inserted
  pub taken : is_asbr x.router x ≡ true → comes_first x (entry_at entries (old x.router)) ≡ true → (new : RouterId → Option ℕ)
      → ((asbr : RouterId) → new asbr ≡ cond (eq_by_cmp router_cmp x.router asbr) (Some i) (old asbr))
      → (asbr : RouterId) → entry_at entries (new asbr) ≡ preferred (take (i + 1) entries) asbr
  taken own first new is =
      each (λ asbr. entry_at entries (new asbr) ≡ preferred (take (i + 1) entries) asbr)
      (ap (λ o. entry_at entries o) (is x.router ∙ ap (λ b. cond b (Some i) (old x.router)) ((eq_by_cmp_equiv router_total).refl x.router))
      ∙ here ∙ ahead x.router own first)
      (λ asbr other. ap (λ o. entry_at entries o)
      (is asbr ∙ ap (λ b. cond b (Some i) (old asbr)) (differs asbr other (eq_by_cmp router_cmp x.router asbr) refl)) ∙ stays asbr (apart asbr other))
    where
      differs : (asbr : RouterId) → same_router x.router asbr ≡ false → (b : Bool) → eq_by_cmp router_cmp x.router asbr ≡ b → b ≡ false
      differs asbr other true h =
          absurd (false≢true
          (sym other ∙ ap (λ (r : RouterId). same_router x.router r) (sym (tells_apart router_exact x.router asbr h)) ∙ eq-eqb x.router.0 x.router.0 refl))
      differs asbr other false h = refl
