-- What is found among pairs in order of router.
use Rattle.std.proofs.Common.{◌≡◌, ℕ, ◌<◌, Bool, true, false, cond, List, [], ◌∷◌, map, get_or, length, Some, None, Err, refl, sym, ap, subst, ◌∙◌}
use Rattle.std.specs.List.{HoldsAt, find}
use Rattle.std.specs.List.Sorted.{IsBinarySearchResult, IsStrictlySortedBy}
use Rattle.std.specs.Map.{lookup}
use Rattle.std.specs.Option.{option_map}
use Rattle.std.specs.Ordering.{eq_by_cmp}
use Rattle.std.specs.declared.cmp.Ordering.TheVariants.{Equal}
use Rattle.std.proofs.lemmas.Cmp.{tied_itself}
use Rattle.std.proofs.lemmas.List.{get_or_default, get_or_read}
use Rattle.lsa_codec.specs.declared.address.RouterId.{RouterId}
use Rattle.lsa_codec.specs.Order.{router_cmp}
use Rattle.lsa_codec.proofs.OrderLemmas.{router_total}
use Rattle.best_ways.proofs.SearchLemmas.{found_at, not_found}

module _ {X : Type 0} where
  pub sorted_same : (es fs : List (RouterId × X)) → es ≡ fs → IsStrictlySortedBy router_cmp (map (λ e. e.0) fs)
      → IsStrictlySortedBy router_cmp (map (λ e. e.0) es)
  sorted_same es fs same s = subst (λ (l : List (RouterId × X)). IsStrictlySortedBy router_cmp (map (λ e. e.0) l)) (sym same) s

  pub sorted_none : (es : List (RouterId × X)) → es ≡ [] → IsStrictlySortedBy router_cmp (map (λ e. e.0) es)
  unfolding IsStrictlySortedBy
  sorted_none es same = sorted_same es [] same tt

module _ {X : Type 0} (q : RouterId) where
  abbrev it : RouterId × X → Bool
  it e = eq_by_cmp router_cmp q e.0

  looked_up : (es : List (RouterId × X)) → option_map (λ e. e.1) (find it es) ≡ lookup (eq_by_cmp router_cmp q) es
  looked_up [] = refl
  looked_up (e ∷ es) = by (it e) (looked_up es)
    where
      by : (b : Bool) → option_map (λ e. e.1) (find it es) ≡ lookup (eq_by_cmp router_cmp q) es
          → option_map (λ e. e.1) (cond b (Some e) (find it es)) ≡ cond b (Some e.1) (lookup (eq_by_cmp router_cmp q) es)
      by true rest = refl
      by false rest = rest

  module _ (es : List (RouterId × X)) (s : IsStrictlySortedBy router_cmp (map (λ e. e.0) es)) where
    -- the value at a place whose key ties with the router
    value_found : (i : ℕ) (e : RouterId × X) → i < length es → HoldsAt (λ y. router_cmp y.0 q ≡ Equal) es i → e ≡ get_or es i e
        → Some e.1 ≡ lookup (eq_by_cmp router_cmp q) es
    value_found i e l at is = ap (option_map (λ e. e.1)) (found_at router_total (λ e. e.0) q es i s l at e is) ∙ looked_up es

    pub value_at : (i : ℕ) (d : RouterId × X) → i < length es → HoldsAt (λ y. router_cmp y.0 q ≡ Equal) es i
        → Some (get_or es i d).1 ≡ lookup (eq_by_cmp router_cmp q) es
    value_at i d l at = value_found i (get_or es i d) l at (get_or_default es i d (get_or es i d) l)

    -- the value at a place that is the router's
    pub value_there : (i : ℕ) (e : RouterId × X) → i < length es → e ≡ get_or es i e → e.0 ≡ q → Some e.1 ≡ lookup (eq_by_cmp router_cmp q) es
    value_there i e l is same =
        value_found i e l (λ d. ap (λ p. router_cmp p.0 q) (sym (get_or_read es i e l is d)) ∙ ap (λ r. router_cmp r q) same ∙ tied_itself router_total q) is

    pub value_missing : (i : ℕ) → IsBinarySearchResult (λ y. router_cmp y.0 q) es (Err i) → None ≡ lookup (eq_by_cmp router_cmp q) es
    value_missing i parted = ap (option_map (λ e. e.1)) (not_found router_total (λ e. e.0) q es i s parted) ∙ looked_up es
