-- Hops put at their places in a sorted list.
use Rattle.std.proofs.Common.{◌≡◌, ℕ, zero, suc, ◌<◌, ◌≤◌, List, [], ◌∷◌, ◌++◌, length, get_or, refl, sym, ap, ◌∙◌, subst, arith, ⊎_elim, Result, Ok}
use Rattle.std.proofs.Common.{◌-◌, Err, MatchResult, Some}
use Rattle.std.specs.Prelude.{◌↔◌, slice_get}
use Rattle.std.specs.List.{AllWithin, Contains, insert}
use Rattle.std.specs.List.Sorted.{IsNonDecreasingBy, IsBinarySearchResult, IsSearchInRange}
use Rattle.std.specs.BTreeSet.{insert_key}
use Rattle.std.specs.Ordering.{match_ordering, ordering_index, ordering_reverse}
use Rattle.std.specs.declared.cmp.Ordering.{Ordering}
use Rattle.std.specs.declared.cmp.Ordering.TheVariants.{Less, Equal, Greater}
use Rattle.std.proofs.lemmas.Bool.{cases_eq}
use Rattle.std.proofs.lemmas.Option.{get_or_from_slice_get}
use Rattle.std.proofs.lemmas.List.Elements.{Contains-append_left, Contains-append_right, Contains-append_cases}
use Rattle.area_graph.specs.Rising.{rising}
use Rattle.area_graph.proofs.RisingLemmas.{Contains-rising, rising-is, rising-pairs}
use Rattle.next_hops.specs.declared.hop.Hop.{Hop}
use Rattle.next_hops.specs.Hop.{hop_cmp, IsSortedHops}
use Rattle.next_hops.proofs.HopOrder.{hop_cmp_total, same_hop}

-- ---- `rising` of hops

pub IsSortedHops-rising : (hops : List Hop) → IsSortedHops (rising hop_cmp hops)
IsSortedHops-rising hops = rising-pairs hop_cmp_total same_hop hops

pub Contains-rising_hops : (hops : List Hop) (h : Hop) → Contains (rising hop_cmp hops) h ↔ Contains hops h
Contains-rising_hops hops h = Contains-rising hop_cmp_total same_hop hops h

-- a sorted list is determined by its hops
pub rising-sorted : (hops : List Hop) → IsSortedHops hops → hops ≡ rising hop_cmp hops
rising-sorted hops sorted = rising-is hop_cmp_total same_hop hops hops sorted (λ h. (λ i. i, λ i. i))

-- the same hops in any order, repeated or not
pub rising-same : (xs ys : List Hop) → ((h : Hop) → Contains xs h → Contains ys h)
    → ((h : Hop) → Contains ys h → Contains xs h) → rising hop_cmp xs ≡ rising hop_cmp ys
rising-same xs ys there back =
    rising-is hop_cmp_total same_hop (rising hop_cmp xs) ys (IsSortedHops-rising xs)
    (λ h. (λ i. there h ((Contains-rising_hops xs h).0 i), λ i. (Contains-rising_hops xs h).1 (back h i)))

-- hops that are joined to sorted ones
pub rising-joined : (xs ys : List Hop) → rising hop_cmp (rising hop_cmp xs ++ ys) ≡ rising hop_cmp (xs ++ ys)
rising-joined xs ys =
    rising-same (rising hop_cmp xs ++ ys) (xs ++ ys)
    (λ h i. ⊎_elim (λ j. Contains-append_left xs ys h ((Contains-rising_hops xs h).0 j))
    (λ j. Contains-append_right xs ys h j) (Contains-append_cases (rising hop_cmp xs) ys h i))
    (λ h i. ⊎_elim (λ j. Contains-append_left (rising hop_cmp xs) ys h ((Contains-rising_hops xs h).1 j))
    (λ j. Contains-append_right (rising hop_cmp xs) ys h j) (Contains-append_cases xs ys h i))

-- one more hop, after the others or before them
rising-turned : (xs : List Hop) (hop : Hop) → rising hop_cmp (hop ∷ xs) ≡ rising hop_cmp (xs ++ hop ∷ [])
rising-turned xs hop =
    rising-same (hop ∷ xs) (xs ++ hop ∷ [])
    (λ h i. ⊎_elim (λ j. Contains-append_right xs (hop ∷ []) h j) (λ j. Contains-append_left xs (hop ∷ []) h j) (Contains-append_cases (hop ∷ []) xs h i))
    (λ h i. ⊎_elim (λ j. Contains-append_right (hop ∷ []) xs h j) (λ j. Contains-append_left (hop ∷ []) xs h j) (Contains-append_cases xs (hop ∷ []) h i))

-- ---- the place that a search finds

module _ (hops : List Hop) (sorted : IsSortedHops hops) (hop : Hop) where
  -- along a sorted list the comparisons with a hop rise, as a binary search asks
  comparisons_rise : IsNonDecreasingBy (λ y. ordering_index (hop_cmp y hop)) hops
  comparisons_rise i j d le within =
      ⊎_elim
      (λ same. (let e : ordering_index (hop_cmp (get_or hops i d) hop) ≡ ordering_index (hop_cmp (get_or hops j d) hop) = ap (λ (k : ℕ). ordering_index (hop_cmp (get_or hops k d) hop)) same in omega arith))
      (λ other. by_later (hop_cmp (get_or hops i d) hop) (hop_cmp (get_or hops j d) hop) refl refl (sorted i j d (omega arith) within))
      (cases_eq i j)
    where
      first : (o : Ordering) → o ≡ Less → (n : ℕ) → ordering_index o ≤ n
      first o is n = let e : ordering_index o ≡ 0 = ap (λ (r : Ordering). ordering_index r) is in omega arith

      at_most : (o : Ordering) → ordering_index o ≤ 2
      at_most Less = omega arith
      at_most Equal = omega arith
      at_most Greater = omega arith

      by_later : (o p : Ordering) → hop_cmp (get_or hops i d) hop ≡ o → hop_cmp (get_or hops j d) hop ≡ p
          → hop_cmp (get_or hops i d) (get_or hops j d) ≡ Less → ordering_index o ≤ ordering_index p
      by_later o Less is_i is_j before = first o (sym is_i ∙ hop_cmp_total.trans (get_or hops i d) (get_or hops j d) hop before is_j) 0
      by_later o Equal is_i is_j before =
          first o (sym is_i ∙ subst (λ (h : Hop). hop_cmp (get_or hops i d) h ≡ Less) (same_hop (get_or hops j d) hop is_j) before) 1
      by_later o Greater is_i is_j before = at_most o

insert_is : (hops : List Hop) (place : ℕ) (hop : Hop) → place ≤ length hops → AllWithin (λ y. hop_cmp y hop ≡ Less) hops 0 place
    → AllWithin (λ y. hop_cmp y hop ≡ Greater) hops place (length hops)
    → insert hops place hop ≡ insert_key hop_cmp hops hop
insert_is [] zero hop le below above = refl
insert_is [] (suc place) hop le below above = absurd (omega arith)
insert_is (y ∷ ys) zero hop le below above =
    let before : hop_cmp hop y ≡ Less = hop_cmp_total.antisymm hop y ∙ ap (λ (o : Ordering). ordering_reverse o) (above 0 hop (omega arith) (omega arith)) in
    ap (λ (o : Ordering). match_ordering o (hop ∷ y ∷ ys) (y ∷ ys) (y ∷ insert_key hop_cmp ys hop)) (sym before)
insert_is (y ∷ ys) (suc place) hop le below above =
    let after : hop_cmp hop y ≡ Greater = hop_cmp_total.antisymm hop y ∙ ap (λ (o : Ordering). ordering_reverse o) (below 0 hop (omega arith) (omega arith)) in
    ap (λ (hs : List Hop). y ∷ hs) (insert_is ys place hop (omega arith) (λ k d low high. below (suc k) d (omega arith) (omega arith))
    (λ k d low high. above (suc k) d (omega arith) (omega arith)))
    ∙ ap (λ (o : Ordering). match_ordering o (hop ∷ y ∷ ys) (y ∷ ys) (y ∷ insert_key hop_cmp ys hop)) (sym after)

-- a hop that is put at a place between those that come before it and those that come after it
put_between : (hops : List Hop) (hop : Hop) (place : ℕ) → IsSortedHops hops → place ≤ length hops → AllWithin (λ y. hop_cmp y hop ≡ Less) hops 0 place
    → AllWithin (λ y. hop_cmp y hop ≡ Greater) hops place (length hops) → insert hops place hop ≡ rising hop_cmp (hops ++ hop ∷ [])
put_between hops hop place sorted within below above =
    insert_is hops place hop within below above
    ∙ ap (λ (hs : List Hop). insert_key hop_cmp hs hop) (rising-sorted hops sorted)
    ∙ rising-turned hops hop

-- a hop that is in the list already
put_again : (hops : List Hop) (hop : Hop) → IsSortedHops hops → Contains hops hop → hops ≡ rising hop_cmp (hops ++ hop ∷ [])
put_again hops hop sorted there =
    rising-is hop_cmp_total same_hop hops (hops ++ hop ∷ []) sorted
    (λ h. (
      λ old. Contains-append_left hops (hop ∷ []) h old,
      λ either. ⊎_elim (λ old. old) (λ one. only h one) (Contains-append_cases hops (hop ∷ []) h either),
    ))
  where
    only : (h : Hop) → Contains (hop ∷ []) h → Contains hops h
    only h (zero, low, is) = subst (λ (x : Hop). Contains hops x) is there
    only h (suc k, low, is) = absurd (let k' : suc k < 1 = low in omega arith)

-- what a search for a hop in a sorted list shows: the hop is there, or it belongs at the place
searched : (hops : List Hop) (hop : Hop) (r : Result ℕ ℕ) → IsSortedHops hops
    → IsSearchInRange r (length hops) → IsBinarySearchResult (λ y. hop_cmp y hop) hops r
    → MatchResult r (λ i. hops ≡ rising hop_cmp (hops ++ hop ∷ [])) (λ place. insert hops place hop ≡ rising hop_cmp (hops ++ hop ∷ []))
searched hops hop (Ok i) sorted within found = put_again hops hop sorted (i, within, same_hop (get_or hops i hop) hop (found hop))
searched hops hop (Err place) sorted within parted =
    let parts = parted (comparisons_rise hops sorted hop) in put_between hops hop place sorted within parts.0 parts.1

-- where the last hop comes before another, that one goes after all
pub put_after : (hops : List Hop) (hop last : Hop) → IsSortedHops hops → slice_get hops (length hops - 1) ≡ Some last → hop_cmp last hop ≡ Less
    → insert hops (length hops) hop ≡ rising hop_cmp (hops ++ hop ∷ [])
put_after hops hop last sorted is before = put_between hops hop (length hops) sorted (omega arith) below (λ k d low high. absurd (omega arith))
  where
    below : AllWithin (λ y. hop_cmp y hop ≡ Less) hops 0 (length hops)
    below k d low high =
        let at_last : get_or hops (length hops - 1) d ≡ last = get_or_from_slice_get hops (length hops - 1) last d is in
        let last_before : hop_cmp (get_or hops (length hops - 1) d) hop ≡ Less = ap (λ (h : Hop). hop_cmp h hop) at_last ∙ before in
        ⊎_elim
        (λ same. ap (λ (n : ℕ). hop_cmp (get_or hops n d) hop) same ∙ last_before)
        (λ other. hop_cmp_total.trans (get_or hops k d) (get_or hops (length hops - 1) d) hop (sorted k (length hops - 1) d (omega arith) (omega arith)) last_before)
        (cases_eq k (length hops - 1))

-- the last hop is in the list
pub put_at_last : (hops : List Hop) (hop last : Hop) → IsSortedHops hops → slice_get hops (length hops - 1) ≡ Some last → hop_cmp last hop ≡ Equal
    → hops ≡ rising hop_cmp (hops ++ hop ∷ [])
put_at_last hops hop last sorted is same =
    let some : 0 < length hops = any hops is in
    put_again hops hop sorted
    (length hops - 1, omega arith, get_or_from_slice_get hops (length hops - 1) hop hop (subst (λ (h : Hop). slice_get hops (length hops - 1) ≡ Some h) (same_hop last hop same) is))
  where
    any : (hs : List Hop) → slice_get hs (length hs - 1) ≡ Some last → 0 < length hs
    any [] is = absurd (cc)
    any (y ∷ ys) is = omega arith

-- where a search finds no hop, those before the place come before it, and the others after it
pub parted_by : (cmp : Hop → Hop → Ordering) → ((g h : Hop) → cmp g h ≡ hop_cmp g h)
    → (hops : List Hop) (hop : Hop) (place : ℕ) → IsSortedHops hops → IsBinarySearchResult (λ y. cmp y hop) hops (Err place)
    → AllWithin (λ y. hop_cmp y hop ≡ Less) hops 0 place × AllWithin (λ y. hop_cmp y hop ≡ Greater) hops place (length hops)
parted_by cmp same hops hop place sorted parted =
    let rise = comparisons_rise hops sorted hop in
    let parts = parted (λ i j d le lt. let low = rise i j d le lt in
    let at_i = ap (λ (o : Ordering). ordering_index o) (same (get_or hops i d) hop) in
    let at_j = ap (λ (o : Ordering). ordering_index o) (same (get_or hops j d) hop) in
    omega arith) in
    (λ k d low high. sym (same (get_or hops k d) hop) ∙ parts.0 k d low high, λ k d low high. sym (same (get_or hops k d) hop) ∙ parts.1 k d low high)

-- the same where the search compares by an order that is this one
pub searched_by : (cmp : Hop → Hop → Ordering) → ((g h : Hop) → cmp g h ≡ hop_cmp g h)
    → (hops : List Hop) (hop : Hop) (r : Result ℕ ℕ) → IsSortedHops hops → IsSearchInRange r (length hops)
    → IsBinarySearchResult (λ y. cmp y hop) hops r
    → MatchResult r (λ i. hops ≡ rising hop_cmp (hops ++ hop ∷ [])) (λ place. insert hops place hop ≡ rising hop_cmp (hops ++ hop ∷ []))
searched_by cmp same hops hop (Ok i) sorted within found = searched hops hop (Ok i) sorted within (λ d. sym (same (get_or hops i d) hop) ∙ found d)
searched_by cmp same hops hop (Err place) sorted within parted = searched hops hop (Err place) sorted within (λ rise. parted_by cmp same hops hop place sorted parted)
