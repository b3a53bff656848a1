-- The order of the reached vertices is a function of the distances.
use Rattle.std.proofs.Common.{◌≡◌, ℕ, ◌<◌, true, length, get_or, Option, Some, None, is_some, unwrap_or, refl, sym, ap, ◌∙◌, subst, arith, ⊎_elim}
use Rattle.std.specs.List.{Contains, AllPairs, filter, range_with_len}
use Rattle.std.specs.Cmp.{IsTotalOrder}
use Rattle.std.specs.Ordering.{nat_cmp, bool_cmp, ordering_then}
use Rattle.std.specs.declared.cmp.Ordering.{Ordering}
use Rattle.std.specs.declared.cmp.Ordering.TheVariants.{Less, Equal, Greater}
use Rattle.std.proofs.lemmas.Bool.{cases_lt, false≢true}
use Rattle.std.proofs.lemmas.Cmp.{on_total, ranked}
use Rattle.std.proofs.lemmas.List.{get_or_past}
use Rattle.std.proofs.lemmas.List.Elements.{Contains-get_or}
use Rattle.std.proofs.lemmas.List.FromFn.{length-range_with_len, get_or-range_with_len}
use Rattle.area_graph.specs.declared.vertex.Vertex.{Vertex}
use Rattle.area_graph.proofs.MemberLemmas.{In-from_Contains, Contains-from_In, In-filter, filter-In}
use Rattle.area_graph.proofs.RisingLemmas.{rising-is}
use Rattle.area_graph.specs.Topology.{Topology}
use Rattle.spf.specs.Candidates.{candidate_cmp, candidate_cmp_total, candidate_at, IsEarlier}
use Rattle.spf.specs.Distances.{Distances, IsTreeOf, settled_cmp, order_of}

then_Equal : (a b : Ordering) → ordering_then a b ≡ Equal → b ≡ Equal
then_Equal Less b h = absurd (cc)
then_Equal Equal b h = h
then_Equal Greater b h = absurd (cc)

module _ (t : Topology) (root : Vertex) (tree : Distances) (of : IsTreeOf t root tree) where
  total : IsTotalOrder (settled_cmp t tree.distances)
  total = on_total (λ (i : ℕ). candidate_at t (unwrap_or (get_or tree.distances i None) 0) i) candidate_cmp_total

  exact : (i j : ℕ) → settled_cmp t tree.distances i j ≡ Equal → i ≡ j
  exact i j h =
      let c = candidate_at t (unwrap_or (get_or tree.distances i None) 0) i in
      let d = candidate_at t (unwrap_or (get_or tree.distances j None) 0) j in
      ranked i j Equal
      (sym (then_Equal (bool_cmp c.is_router d.is_router) (nat_cmp i j)
      (then_Equal (nat_cmp c.distance d.distance) (ordering_then (bool_cmp c.is_router d.is_router) (nat_cmp i j)) h)))

  earlier : (i j : ℕ) (o p : Option ℕ) → get_or tree.distances i None ≡ o → get_or tree.distances j None ≡ p
      → is_some o ≡ true → is_some p ≡ true → IsEarlier t tree.distances i j
      → candidate_cmp (candidate_at t (unwrap_or o 0) i) (candidate_at t (unwrap_or p 0) j) ≡ Less
  earlier i j None p at_i at_j a b h = absurd (false≢true a)
  earlier i j (Some d) None at_i at_j a b h = absurd (false≢true b)
  earlier i j (Some d) (Some e) at_i at_j a b h = h d e at_i at_j

  in_order : AllPairs (λ i j. settled_cmp t tree.distances i j ≡ Less) tree.order
  in_order k l d lt within =
      let i = get_or tree.order k d in
      let j = get_or tree.order l d in
      earlier i j (get_or tree.distances i None) (get_or tree.distances j None) refl refl
      (of.settled i (Contains-get_or tree.order k d (omega arith))) (of.settled j (Contains-get_or tree.order l d within)) (of.rising k l d lt within)

  within_distances : (i : ℕ) → is_some (get_or tree.distances i None) ≡ true → i < length tree.distances
  within_distances i h =
      ⊎_elim (λ lt. lt) (λ past. absurd (false≢true (sym (ap (λ (o : Option ℕ). is_some o) (get_or_past tree.distances i None past)) ∙ h)))
      (cases_lt i (length tree.distances))

  number_in : (n i : ℕ) → i < n → Contains (range_with_len 0 n) i
  number_in n i lt = (i, subst (λ (k : ℕ). i < k) (sym (length-range_with_len 0 n)) lt, (let is = get_or-range_with_len 0 n i i lt in omega arith))

  pub order-is : tree.order ≡ order_of t tree.distances
  unfolding order_of
  order-is =
      let numbers = range_with_len 0 (length tree.distances) in
      rising-is total exact tree.order (filter (λ i. is_some (get_or tree.distances i None)) numbers) in_order (λ i. (
        λ there. (let some = of.settled i there in Contains-from_In (filter (λ i. is_some (get_or tree.distances i None)) numbers) i
            (In-filter (λ i. is_some (get_or tree.distances i None)) numbers i
            (In-from_Contains numbers i (number_in (length tree.distances) i (within_distances i some))) some)),
        λ there. of.listed i (filter-In (λ i. is_some (get_or tree.distances i None)) numbers i (In-from_Contains (filter (λ i. is_some (get_or tree.distances i None)) numbers) i there)).1,
      ))
