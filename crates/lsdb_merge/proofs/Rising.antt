-- Scopes in order, each once.
use Rattle.std.proofs.Common.{◌≡◌, ℕ, ◌-◌, ◌<◌, ◌⊎◌, inl, inr, true, false, refl, sym, ◌∙◌, ap, subst, List, [], ◌∷◌, ◌++◌, length, get_or, take, Some, arith}
use Rattle.std.specs.Prelude.{All, Contains, slice_get}
use Rattle.std.specs.List.Sorted.{IsSorted}
use Rattle.std.specs.Ordering.{is_lt, ordering_reverse}
use Rattle.std.specs.declared.cmp.Ordering.{Ordering}
use Rattle.std.specs.declared.cmp.Ordering.TheVariants.{Less, Equal, Greater}
use Rattle.std.proofs.lemmas.Bool.{both_ways}
use Rattle.std.proofs.lemmas.List.{get_or-take, get_or_default, length-take}
use Rattle.std.proofs.lemmas.List.Elements.{All-contains, All-push, All-weaker, Contains-append_left, Contains-push}
use Rattle.std.proofs.lemmas.List.Quantifiers.{all_pairs_push}
use Rattle.std.proofs.lemmas.List.Sorted.{ranks_by, sorted_far}
use Rattle.std.proofs.lemmas.Option.{slice_get-get_or, slice_get_cases}
use Rattle.lsa_instances.specs.declared.place.Scope.{Scope}
use Rattle.lsa_instances.specs.Order.{scope_cmp}
use Rattle.lsa_instances.proofs.OrderLemmas.{scope_exact, scope_total}
use Rattle.lsdb_merge.specs.steps.Scopes.{AreOnce, IsWide, is_after, is_after_last}

less_is : (o : Ordering) → is_lt o ≡ true → o ≡ Less
less_is Less h = refl
less_is Equal h = cc
less_is Greater h = cc

tied : (r s : Ordering) → r ≡ ordering_reverse s → is_lt r ≡ false → is_lt s ≡ false → s ≡ Equal
tied r Less e h k = cc
tied r Equal e h k = refl
tied Less Greater e h k = cc
tied Equal Greater e h k = cc
tied Greater Greater e h k = cc

abbrev Before : Scope → Scope → Type 0
Before a b = scope_cmp a b ≡ Less

-- x stands after none of these
abbrev pub ReachesAll : List Scope → Scope → Type 0
ReachesAll p x = All (λ y. is_lt (scope_cmp x y) ≡ false) p

pub reaches : (all : List Scope) (i : ℕ) (x : Scope) → IsSorted scope_cmp all → i < length all → x ≡ get_or all i x → ReachesAll (take i all) x
reaches all i x up l e k d below =
    let within : k < i = omega (arith, below, length-take i all) in
    let same : get_or all k d ≡ get_or (take i all) k d = sym (get_or-take i all k d within) in
    let here : get_or all i d ≡ x = get_or_default all i d x l ∙ sym e in
    let far : is_lt (scope_cmp (get_or all i d) (get_or all k d)) ≡ false =
    sorted_far (λ a b. is_lt (scope_cmp a b)) (ranks_by scope_total (λ a. a)) all up k i d (omega arith) l in
    let P : Scope → Type 0 = λ z. is_lt (scope_cmp z (get_or (take i all) k d)) ≡ false in
    let Q : Scope → Type 0 = λ z. is_lt (scope_cmp (get_or all i d) z) ≡ false in
    subst P here (subst Q same far)

module _ (p : List Scope) (x : Scope) (up : ReachesAll p x) (scopes : List Scope) (k : AreOnce p scopes) where
  whole_more : (more : List Scope) → ((y : Scope) → Contains scopes y → Contains more y) → Contains more x → All (Contains more) (p ++ x ∷ [])
  whole_more more f h = All-push (Contains more) p x (All-weaker (Contains scopes) (Contains more) f p k.whole) h

  each_more : All (Contains (p ++ x ∷ [])) scopes
  each_more = All-weaker (Contains p) (Contains (p ++ x ∷ [])) (λ y h. Contains-append_left p (x ∷ []) y h) scopes k.each

  abbrev last : ℕ
  last = length scopes - 1

  -- the last of the scopes is x, where x does not stand after it
  pub known : is_after_last scopes x ≡ false → AreOnce (p ++ x ∷ []) scopes
  known n = record {
    order = k.order;
    wide = k.wide;
    each = each_more;
    whole = whole_more scopes (λ y h. h)
        (elim (slice_get_cases scopes last).1 as (λ _. Contains scopes x) [
          | inl s ↦
              let w = s.0 in
              let not_before : is_lt (scope_cmp w x) ≡ false = ap (λ o. is_after o x) (sym s.2) ∙ n in
              let within : Contains scopes w = (last, s.1, s.3) in
              let below : is_lt (scope_cmp x w) ≡ false =
              All-contains (λ y. is_lt (scope_cmp x y) ≡ false) p w up (All-contains (Contains p) scopes w k.each within) in
              let same : x ≡ w = scope_exact x w (tied (scope_cmp w x) (scope_cmp x w) (scope_total.antisymm w x) not_before below) in
              let P : Scope → Type 0 = λ z. Contains scopes z in
              subst P (sym same) within
          | inr s ↦ absurd (both_ways false refl (sym n ∙ ap (λ o. is_after o x) s.1))
        ]);
  }

  after_all : is_after_last scopes x ≡ true → (j : ℕ) (d : Scope) → j < length scopes → scope_cmp (get_or scopes j d) x ≡ Less
  after_all b j d l =
      let inside : last < length scopes = omega (arith, l) in
      let w = get_or scopes last d in
      let found : slice_get scopes last ≡ Some w = slice_get-get_or scopes last d inside in
      let before : scope_cmp w x ≡ Less = less_is _ (ap (λ o. is_after o x) (sym found) ∙ b) in
      let split : (j < last) ⊎ (j ≡ last) = grind (arith, l) in
      elim split as (λ _. scope_cmp (get_or scopes j d) x ≡ Less) [
        | inl q ↦ scope_total.trans (get_or scopes j d) w x (k.order j last d q inside) before
        | inr q ↦ ap (λ i. scope_cmp (get_or scopes i d) x) q ∙ before
      ]

  pub new : IsWide x → is_after_last scopes x ≡ true → AreOnce (p ++ x ∷ []) (scopes ++ x ∷ [])
  new w b = record {
    order = all_pairs_push Before scopes x k.order (after_all b);
    wide = All-push IsWide scopes x k.wide w;
    each = All-push (Contains (p ++ x ∷ [])) scopes x each_more (Contains-push p x);
    whole = whole_more (scopes ++ x ∷ []) (λ y h. Contains-append_left scopes (x ∷ []) y h) (Contains-push scopes x);
  }
