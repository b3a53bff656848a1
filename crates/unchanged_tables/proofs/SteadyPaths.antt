-- Edges that differ in slack ones alone give the same distances and the same first hops.
use Rattle.std.proofs.Common.{◌≡◌, ℕ, ◌+◌, ◌≤◌, List, [], ◌∷◌, Option, None, Some, refl, sym, ap, ◌∙◌, subst, arith}
use Rattle.std.specs.List.{Contains, filter_map}
use Rattle.area_graph.specs.declared.vertex.Vertex.{Vertex}
use Rattle.area_graph.specs.Paths.{DirectedEdge, path_cost, IsPath, HasPathOfCost, IsLeastCost, IsDistance}
use Rattle.area_graph.specs.AllPaths.{distance_of, least_paths_of}
use Rattle.area_graph.proofs.AllPathsLemmas.{IsDistance-distance_of, distance_of-is}
use Rattle.area_graph.proofs.MemberLemmas.{Some-same}
use Rattle.area_graph.proofs.PathLemmas.{HasPathOfCost-push}
use Rattle.area_graph.proofs.RisingLemmas.{Contains-rising, rising-is, rising-pairs}
use Rattle.next_hops.specs.declared.hop.Hop.{Hop}
use Rattle.next_hops.specs.FirstHops.{IsHopTo, NothingFree, first_hop, hops_of}
use Rattle.next_hops.proofs.HopLemmas.{Contains-hops_of, hop_cmp_total, same_hop}

-- a path of least cost can go over this edge
abbrev pub IsTight : (Vertex → Option ℕ) → DirectedEdge Vertex → Type 0
IsTight distance e = (a : ℕ) × (distance e.from ≡ Some a) × (distance e.to ≡ Some (a + e.cost))

-- no edge leads from a vertex that is reached to one that is farther than over the edge
abbrev pub IsNoFarther : (Vertex → Option ℕ) → (DirectedEdge Vertex → Type 0) → Type 0
IsNoFarther distance IsEdge =
    (e : DirectedEdge Vertex) (a : ℕ) → IsEdge e → distance e.from ≡ Some a → (b : ℕ) × (distance e.to ≡ Some b) × (b ≤ a + e.cost)

-- these are the distances from a root over these edges
abbrev pub AreDistances : Vertex → (Vertex → Option ℕ) → (DirectedEdge Vertex → Type 0) → Type 0
AreDistances root distance IsEdge = (v : Vertex) → IsDistance IsEdge root v (distance v)

module _ (root : Vertex) (distance : Vertex → Option ℕ) (P : DirectedEdge Vertex → Type 0) where
  pub no_farther : AreDistances root distance P → IsNoFarther distance P
  no_farther are e a edge from = by (distance e.to) refl (are e.to)
    where
      start : IsLeastCost P root e.from a
      start = subst (λ (o : Option ℕ). IsDistance P root e.from o) from (are e.from)

      over : HasPathOfCost P root e.to (a + e.cost)
      over = HasPathOfCost-push P root e a start.0 edge

      by : (o : Option ℕ) → distance e.to ≡ o → IsDistance P root e.to o → (b : ℕ) × (distance e.to ≡ Some b) × (b ≤ a + e.cost)
      by None is none = absurd (none over.0 over.1)
      by (Some b) is least = (
        b,
        is,
        (let low : b ≤ path_cost over.0 = least.1 over.0 over.1 in
            let cost : path_cost over.0 ≡ a + e.cost = over.2 in
            omega arith),
      )

  root_is_nearest : AreDistances root distance P → distance root ≡ Some 0
  root_is_nearest are = by (distance root) refl (are root)
    where
      by : (o : Option ℕ) → distance root ≡ o → IsDistance P root root o → distance root ≡ Some 0
      by None is none = absurd (none [] refl)
      by (Some a) is least =
          let low : a ≤ 0 = least.1 [] refl in
          let nothing : a ≡ 0 = omega arith in
          is ∙ ap (λ (n : ℕ). Some n) nothing

  module _ (near : IsNoFarther distance P) where
    -- a path leads to no vertex that is farther than over the path
    along : (es : List (DirectedEdge Vertex)) (v w : Vertex) (a : ℕ) → IsPath P v es w → distance v ≡ Some a
        → (b : ℕ) × (distance w ≡ Some b) × (b ≤ a + path_cost es)
    along [] v w a p at = (a, subst (λ (x : Vertex). distance x ≡ Some a) p at, omega arith)
    along (e ∷ es) v w a p at =
        let one = near e a p.0 (subst (λ (x : Vertex). distance x ≡ Some a) (sym p.1) at) in
        let rest = along es e.to w one.0 p.2 one.1 in
        let high : one.0 ≤ a + e.cost = one.2 in
        let more : rest.0 ≤ one.0 + path_cost es = rest.2 in
        (rest.0, rest.1, omega arith)

    -- a path of least cost goes over tight edges alone, so it is a path over all edges that have these
    moved : (Q : DirectedEdge Vertex → Type 0) → ((e : DirectedEdge Vertex) → P e → IsTight distance e → Q e)
        → (es : List (DirectedEdge Vertex)) (v w : Vertex) (a : ℕ) → IsPath P v es w → distance v ≡ Some a → distance w ≡ Some (a + path_cost es)
        → IsPath Q v es w
    moved Q there [] v w a p at end = p
    moved Q there (e ∷ es) v w a p at end =
        let from : distance e.from ≡ Some a = subst (λ (x : Vertex). distance x ≡ Some a) (sym p.1) at in
        let one = near e a p.0 from in
        let rest = along es e.to w one.0 p.2 one.1 in
        let high : one.0 ≤ a + e.cost = one.2 in
        let more : rest.0 ≤ one.0 + path_cost es = rest.2 in
        let same : a + (e.cost + path_cost es) ≡ rest.0 = Some-same (sym end ∙ rest.1) in
        let cost : one.0 ≡ a + e.cost = omega arith in
        let sums : a + (e.cost + path_cost es) ≡ (a + e.cost) + path_cost es = omega arith in
        let to : distance e.to ≡ Some (a + e.cost) = one.1 ∙ ap (λ (n : ℕ). Some n) cost in
        (there e p.0 (a, from, to), p.1, moved Q there es e.to w (a + e.cost) p.2 to (end ∙ ap (λ (n : ℕ). Some n) sums))

module _ (root : Vertex) (distance : Vertex → Option ℕ) (P Q : DirectedEdge Vertex → Type 0) (are : AreDistances root distance P)
    (there : (e : DirectedEdge Vertex) → P e → IsTight distance e → Q e) where
  -- a path of this cost to a vertex at this distance
  least_moved : (v : Vertex) (b : ℕ) (es : List (DirectedEdge Vertex)) → IsPath P root es v → distance v ≡ Some b → b ≡ path_cost es → IsPath Q root es v
  least_moved v b es path at cost =
      let sum : b ≡ 0 + path_cost es = omega arith in
      moved root distance P (no_farther root distance P are) Q there es root v 0 path (root_is_nearest root distance P are)
      (at ∙ ap (λ (n : ℕ). Some n) sum)

  -- over other edges that include the tight ones, and lead to no vertex that is farther, these are the distances,
  -- too
  still_distances : IsNoFarther distance Q → AreDistances root distance Q
  still_distances near v = by (distance v) refl (are v)
    where
      end : (es : List (DirectedEdge Vertex)) → IsPath Q root es v → (b : ℕ) × (distance v ≡ Some b) × (b ≤ 0 + path_cost es)
      end es path = along root distance Q near es root v 0 path (root_is_nearest root distance P are)

      by : (o : Option ℕ) → distance v ≡ o → IsDistance P root v o → IsDistance Q root v o
      by None is none = λ es path. (let r = end es path in let no : None ≡ Some r.0 = sym is ∙ r.1 in absurd (cc))
      by (Some b) is ((es, path, cost), low) = (
        (es, least_moved v b es path is (sym cost), cost),
        λ fs p.
            (let r = end fs p in
            let high : r.0 ≤ 0 + path_cost fs = r.2 in
            let same : b ≡ r.0 = Some-same (sym is ∙ r.1) in
            omega arith),
      )

  -- and a first hop is one over them
  hop_moved : AreDistances root distance Q → (w : Vertex) (hop : Hop) → IsHopTo P root w hop → IsHopTo Q root w hop
  hop_moved others w hop (es, path, low, first) = by (distance w) refl (are w) (others w)
    where
      by : (o : Option ℕ) → distance w ≡ o → IsDistance P root w o → IsDistance Q root w o → IsHopTo Q root w hop
      by None is none others = absurd (none es path)
      by (Some b) is ((fs, other, cost), below) (has, least) =
          let one : path_cost es ≤ path_cost fs = low fs other in
          let two : b ≤ path_cost es = below es path in
          let same : b ≡ path_cost es = omega arith in (
            es,
            least_moved w b es path is same,
            λ gs p. (let three : b ≤ path_cost gs = least gs p in omega arith),
            first,
          )

-- edges before and after a change of slack ones
pub record AreSteadyEdges (distance : Vertex → Option ℕ) (olds news : List (DirectedEdge Vertex)) : Type 0 where
  pub near : IsNoFarther distance (λ e. Contains news e)
  pub there : (e : DirectedEdge Vertex) → Contains olds e → IsTight distance e → Contains news e
  pub back : (e : DirectedEdge Vertex) → Contains news e → IsTight distance e → Contains olds e

module _ (root : Vertex) (olds news : List (DirectedEdge Vertex)) (steady : AreSteadyEdges (λ v. distance_of olds root v) olds news) where
  abbrev distance : Vertex → Option ℕ
  distance v = distance_of olds root v

  before : AreDistances root distance (λ e. Contains olds e)
  before v = IsDistance-distance_of olds root v

  after : AreDistances root distance (λ e. Contains news e)
  after = still_distances root distance (λ e. Contains olds e) (λ e. Contains news e) before steady.there steady.near

  pub same_distance : (v : Vertex) → distance_of news root v ≡ distance_of olds root v
  same_distance v = sym (distance_of-is news (λ e. Contains news e) (λ e edge. edge) (λ e edge. edge) root v (distance_of olds root v) (after v))

  pub same_hops : NothingFree olds → NothingFree news → (v : Vertex) → hops_of news root v ≡ hops_of olds root v
  unfolding hops_of
  same_hops costly costs v =
      let listed = filter_map (λ es. first_hop es) (least_paths_of olds root v) in
      let others = filter_map (λ es. first_hop es) (least_paths_of news root v) in
      rising-is hop_cmp_total same_hop (hops_of news root v) listed (rising-pairs hop_cmp_total same_hop others)
      (λ hop. (
        λ is. (Contains-rising hop_cmp_total same_hop listed hop).0 ((Contains-hops_of olds costly root v hop).1
            (hop_moved root distance (λ e. Contains news e) (λ e. Contains olds e) after steady.back before v hop
            ((Contains-hops_of news costs root v hop).0 is))),
        λ is. (Contains-hops_of news costs root v hop).1
            (hop_moved root distance (λ e. Contains olds e) (λ e. Contains news e) before steady.there after v hop
            ((Contains-hops_of olds costly root v hop).0 ((Contains-rising hop_cmp_total same_hop listed hop).1 is))),
      ))
