-- What stays as it is while lists of hops are added.
use Rattle.std.proofs.Common.{◌≡◌, ℕ, ◌<◌, List, [], ◌∷◌, ◌++◌, length, map, Option, None, Some, Bool, true, false, if◌then◌else◌, refl, sym, ap, ◌∙◌}
use Rattle.std.proofs.Common.{subst, arith}
use lib.Pointwise.{pointwise}
use Rattle.std.specs.List.{All}
use Rattle.std.specs.Map.{lookup}
use Rattle.std.specs.Option.{IfSome}
use Rattle.std.proofs.lemmas.List.{append-nil, length-map}
use Rattle.std.proofs.lemmas.List.Elements.{All-head, All-tail, All-cons, All-contains, All-get_or, All-map, All-weaker}
use Rattle.std.proofs.lemmas.Map.Entries.{place_from_lookup}
use Rattle.std.proofs.lemmas.Option.{get_or_from_slice_get, slice_get_within}
use Rattle.std.specs.declared.vec.Vec.{Vec}
use Rattle.indexmap.specs.IndexMap.{insert_entry}
use Rattle.area_graph.specs.Rising.{rising}
use Rattle.next_hops.specs.declared.hop.Hop.{Hop}
use Rattle.next_hops.specs.declared.handed.Handed.{Handed}
use Rattle.next_hops.specs.Hop.{IsSortedHops, hop_cmp}
use Rattle.next_hops.specs.steps.Handed.{AreWhole, handed_hops, numbers_in}
use Rattle.next_hops.specs.steps.Shared.{AreJoins, AreSorted, AreWithin, HasJoin, IsJoin, Keeps, hops_in, list_in, lists_in}
use Rattle.next_hops.proofs.Inserted.{rising-sorted}
use Rattle.next_hops.proofs.Sharing.{pointwise-same}

module _ {A : Type 0} (old new : List (Vec Hop A)) (keeps : Keeps old new) where
  pub AreWithin-kept : (numbers : List ℕ) → AreWithin old numbers → AreWithin new numbers
  AreWithin-kept numbers within =
      All-weaker (λ n. n < length old) (λ n. n < length new) (λ n lt. let more = keeps.no_less in omega arith) numbers within

  pub hops_in-kept : (numbers : List ℕ) → AreWithin old numbers → hops_in new numbers ≡ hops_in old numbers
  hops_in-kept [] within = refl
  hops_in-kept (n ∷ ns) within =
      ap (λ (hops : List Hop). hops ++ hops_in new ns) (keeps.same n (All-head (λ m. m < length old) n ns within))
      ∙ ap (λ (hops : List Hop). list_in old n ++ hops) (hops_in-kept ns (All-tail (λ m. m < length old) n ns within))

  pub IsJoin-kept : (numbers : List ℕ) (n : ℕ) → IsJoin old numbers n → IsJoin new numbers n
  IsJoin-kept numbers n join = record {
    parts = AreWithin-kept numbers join.parts;
    within = (let lt = join.within in let more = keeps.no_less in omega arith);
    hops = keeps.same n join.within ∙ join.hops ∙ ap (λ (hops : List Hop). rising hop_cmp hops) (sym (hops_in-kept numbers join.parts));
  }

  pub AreJoins-kept : (joins : List (Vec ℕ A × ℕ)) → AreJoins old joins → AreJoins new joins
  AreJoins-kept joins all =
      All-weaker (λ (e : Vec ℕ A × ℕ). IsJoin old e.0.items e.1) (λ (e : Vec ℕ A × ℕ). IsJoin new e.0.items e.1)
      (λ e join. IsJoin-kept e.0.items e.1 join) joins all

  -- the hops of vertices that received old lists
  pub hops-kept : (vertices : List (Handed A)) → All (λ v. AreWithin old (numbers_in v)) vertices
      → map (λ v. handed_hops new v) vertices ≡ map (λ v. handed_hops old v) vertices
  hops-kept [] within = refl
  hops-kept (v ∷ vs) within =
      ap (λ (hops : List Hop). rising hop_cmp hops ∷ map (λ w. handed_hops new w) vs)
      (hops_in-kept (numbers_in v) (All-head (λ w. AreWithin old (numbers_in w)) v vs within))
      ∙ ap (λ (rest : List (List Hop)). handed_hops old v ∷ rest) (hops-kept vs (All-tail (λ w. AreWithin old (numbers_in w)) v vs within))

  pub AreWhole-kept : (joins : List (Vec ℕ A × ℕ)) (vertices : List (Handed A)) → AreWhole old joins vertices → AreWhole new joins vertices
  AreWhole-kept joins vertices whole = record {
    sorted = keeps.sorted whole.sorted;
    joined = AreJoins-kept joins whole.joined;
    within = All-weaker (λ v. AreWithin old (numbers_in v)) (λ v. AreWithin new (numbers_in v))
        (λ v within. AreWithin-kept (numbers_in v) within) vertices whole.within;
  }

-- the number that a look-up finds is that of a join
pub found_join : {A : Type 0} (eq : ℕ → ℕ → Bool) → ((m n : ℕ) → eq m n ≡ true → m ≡ n) → (numbers : List ℕ) (joins : List (Vec ℕ A × ℕ)) (o : Option ℕ)
    → o ≡ lookup (λ key. pointwise eq numbers key.items) joins → IfSome o (λ n. HasJoin joins numbers n)
found_join eq exact numbers joins None is = tt
found_join {A} eq exact numbers joins (Some n) is =
    let place = place_from_lookup (λ (key : Vec ℕ A). pointwise eq numbers key.items) joins n (sym is) in (
      place.1,
      sym (pointwise-same eq exact numbers place.1.items place.3),
      (place.0, slice_get_within joins place.0 (place.1, n) place.2, get_or_from_slice_get joins place.0 (place.1, n) (place.1, n) place.2),
    )

module _ {A : Type 0} (lists : List (Vec Hop A)) where
  pub IsSortedHops-list_in : AreSorted lists → (n : ℕ) → n < length lists → IsSortedHops (list_in lists n)
  IsSortedHops-list_in sorted n lt =
      All-get_or (λ (hops : List Hop). IsSortedHops hops) (map (λ x. x.items) lists) n []
      (subst (λ (m : ℕ). n < m) (sym (length-map lists (λ x. x.items))) lt)
      (All-map (λ (hops : List Hop). IsSortedHops hops) (λ x. x.items) lists sorted)

  pub All-sorted_lists_in : AreSorted lists → (numbers : List ℕ) → AreWithin lists numbers → All IsSortedHops (lists_in lists numbers)
  All-sorted_lists_in sorted numbers within =
      All-map (λ (hops : List Hop). IsSortedHops hops) (λ n. list_in lists n) numbers
      (All-weaker (λ n. n < length lists) (λ n. IsSortedHops (list_in lists n)) (λ n lt. IsSortedHops-list_in sorted n lt) numbers within)

  -- one list alone
  pub IsJoin-one : AreSorted lists → (n : ℕ) → n < length lists → IsJoin lists (n ∷ []) n
  IsJoin-one sorted n lt = record {
    parts = All-cons (λ m. m < length lists) n [] lt (λ k d low. absurd (let l : k < 0 = low in omega arith));
    within = lt;
    hops = rising-sorted (list_in lists n) (IsSortedHops-list_in sorted n lt) ∙ ap (λ (hops : List Hop). rising hop_cmp hops) (sym (append-nil (list_in lists n)));
  }

  pub IsJoin-found : (joins : List (Vec ℕ A × ℕ)) → AreJoins lists joins → (numbers : List ℕ) (n : ℕ) → HasJoin joins numbers n → IsJoin lists numbers n
  IsJoin-found joins all numbers n (key, is, there) =
      subst (λ (ms : List ℕ). IsJoin lists ms n) is (All-contains (λ (e : Vec ℕ A × ℕ). IsJoin lists e.0.items e.1) joins (key, n) all there)

  -- one more join
  pub AreJoins-insert : (eq : Vec ℕ A → Vec ℕ A → Bool) → ((k j : Vec ℕ A) → eq k j ≡ true → k.items ≡ j.items) → (joins : List (Vec ℕ A × ℕ))
      (key : Vec ℕ A) (n : ℕ) → AreJoins lists joins → IsJoin lists key.items n → AreJoins lists (insert_entry eq joins key n)
  AreJoins-insert eq exact [] key n all join = All-cons (λ (e : Vec ℕ A × ℕ). IsJoin lists e.0.items e.1) (key, n) [] join all
  AreJoins-insert eq exact (e ∷ es) key n all join =
      by_test (eq key e.0) refl (AreJoins-insert eq exact es key n (All-tail (λ (x : Vec ℕ A × ℕ). IsJoin lists x.0.items x.1) e es all) join)
    where
      by_test : (b : Bool) → eq key e.0 ≡ b → AreJoins lists (insert_entry eq es key n)
          → AreJoins lists (if b then (e.0, n) ∷ es else e ∷ insert_entry eq es key n)
      by_test true is rest =
          All-cons (λ (x : Vec ℕ A × ℕ). IsJoin lists x.0.items x.1) (e.0, n) es
          (subst (λ (ms : List ℕ). IsJoin lists ms n) (exact key e.0 is) join) (All-tail (λ (x : Vec ℕ A × ℕ). IsJoin lists x.0.items x.1) e es all)
      by_test false is rest =
          All-cons (λ (x : Vec ℕ A × ℕ). IsJoin lists x.0.items x.1) e (insert_entry eq es key n)
          (All-head (λ (x : Vec ℕ A × ℕ). IsJoin lists x.0.items x.1) e es all) rest
