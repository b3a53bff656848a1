-- Hops that are passed along edges are the first hops of the paths of least cost.
use Rattle.std.proofs.Common.{◌≡◌, ℕ, ◌+◌, ◌<◌, ◌≤◌, false, cond, List, [], ◌∷◌, ◌++◌, map, length, get_or, Option, None, Some, refl, sym, ap, ◌∙◌}
use Rattle.std.proofs.Common.{subst, arith, add_assoc, ◌⊎◌, inl, inr, ⊎_elim}
use Rattle.std.specs.Option.{option_map_or}
use Rattle.std.specs.List.{Contains}
use Rattle.std.proofs.lemmas.List.{append-nil, append_assoc, map-append}
use Rattle.std.proofs.lemmas.Option.{slice_get-get_or}
use Rattle.lsa_codec.specs.declared.address.Addr.{Addr}
use Rattle.area_graph.specs.Vertex.{is_network}
use Rattle.area_graph.specs.declared.vertex.Vertex.{Vertex}
use Rattle.area_graph.specs.declared.vertex.Vertex.TheVariants.{Router, Network}
use Rattle.area_graph.specs.Paths.{DirectedEdge, path_cost, IsPath, IsDistance}
use Rattle.area_graph.proofs.PathLemmas.{IsPath-push, IsPath-append, path_cost-append}
use Rattle.area_graph.specs.Topology.{Topology, IsTopology, IsArc}
use Rattle.area_graph.proofs.TopologyLemmas.{name, named}
use Rattle.spf.specs.Distances.{Distances}
use Rattle.next_hops.specs.declared.hop.Hop.{Hop}
use Rattle.next_hops.specs.declared.hop.Hop.TheVariants.{Link, Attached}
use Rattle.next_hops.specs.FirstHops.{hop_to, first_hop, hops_at}
use Rattle.next_hops.specs.steps.Passing.{IsTight, IsPassed, first_at}
use Rattle.next_hops.specs.Hop.{extended}

-- the first hop of a path and one more edge
abbrev pub hop_over : Option Hop → DirectedEdge Vertex → Hop
hop_over None e = hop_to e.to e.link_data []
hop_over (Some h) e = extended h e.link_data

hop_to-push : (v : Vertex) (d : Addr) (es : List (DirectedEdge Vertex)) (e : DirectedEdge Vertex)
    → hop_to v d (es ++ e ∷ []) ≡ extended (hop_to v d es) e.link_data
hop_to-push (Router _) d es e = refl
hop_to-push (Network _) d [] e = refl
hop_to-push (Network _) d (x ∷ es) e = refl

pub first_hop-push : (es : List (DirectedEdge Vertex)) (e : DirectedEdge Vertex) → first_hop (es ++ e ∷ []) ≡ Some (hop_over (first_hop es) e)
first_hop-push [] e = refl
first_hop-push (x ∷ es) e = ap (λ (h : Hop). Some h) (hop_to-push x.to x.link_data es e)

-- the first hop of a path, from that of a part before it
abbrev pub hop_along : Option Hop → List (DirectedEdge Vertex) → Option Hop
hop_along o [] = o
hop_along o (e ∷ es) = hop_along (Some (hop_over o e)) es

extended_along : (v : Vertex) (d : Addr) (es fs : List (DirectedEdge Vertex)) → hop_along (Some (hop_to v d es)) fs ≡ Some (hop_to v d (es ++ fs))
extended_along v d es [] = ap (λ (x : List (DirectedEdge Vertex)). Some (hop_to v d x)) (sym (append-nil es))
extended_along v d es (f ∷ fs) =
    ap (λ (h : Hop). hop_along (Some h) fs) (sym (hop_to-push v d es f)) ∙ extended_along v d (es ++ f ∷ []) fs
    ∙ ap (λ (x : List (DirectedEdge Vertex)). Some (hop_to v d x)) (append_assoc es (f ∷ []) fs)

pub first_hop-along : (es : List (DirectedEdge Vertex)) → hop_along None es ≡ first_hop es
first_hop-along [] = refl
first_hop-along (e ∷ es) = extended_along e.to e.link_data [] es

-- the edge alone, by the kind of its end
pub first_at-named : (t : Topology) (e : DirectedEdge ℕ) → e.to < length t.vertices → first_at t e.to e.link_data ≡ hop_over None (named t e)
first_at-named t e within =
    ap (λ (o : Option Vertex). cond (option_map_or (λ (v : Vertex). is_network v) o false) (Attached e.link_data) (Link e.link_data))
    (slice_get-get_or t.vertices e.to (Router (record { 0 = 0 })) within)
    ∙ by_kind (name t e.to)
  where
    by_kind : (v : Vertex) → cond (is_network v) (Attached e.link_data) (Link e.link_data) ≡ hop_to v e.link_data []
    by_kind (Router _) = refl
    by_kind (Network _) = refl

abbrev pub names : Topology → List (DirectedEdge ℕ) → List (DirectedEdge Vertex)
names t es = map (λ (e : DirectedEdge ℕ). named t e) es

-- a hop is the first of some path of least cost, over the vertices' numbers
abbrev pub IsFirstHop : Topology → Distances → ℕ → Hop → Type 0
IsFirstHop t tree w h = (es : List (DirectedEdge ℕ)) × IsPath (IsArc t) tree.root es w
    × (get_or tree.distances w None ≡ Some (path_cost es)) × (first_hop (names t es) ≡ Some h)

-- the distances are those of the definition
abbrev pub IsMeasured : Topology → Distances → Type 0
IsMeasured t tree = (i : ℕ) → i < length t.vertices → IsDistance (IsArc t) tree.root i (get_or tree.distances i None)

-- each hop of the start of an edge has been passed to its end
abbrev pub IsPassedOn : Topology → Distances → List (List Hop) → Type 0
IsPassedOn t tree table = (e : DirectedEdge ℕ) (h : Hop) → IsArc t e → IsPassed t tree (hops_at table e.from) e h → Contains (hops_at table e.to) h

module _ (t : Topology) (shape : IsTopology t) (tree : Distances) (measured : IsMeasured t tree) where
  -- what is passed along an edge is a first hop
  pub IsFirstHop-passed : (table : List (List Hop)) → ((w : ℕ) (h : Hop) → Contains (hops_at table w) h → IsFirstHop t tree w h)
      → get_or tree.distances tree.root None ≡ Some 0
      → (e : DirectedEdge ℕ) (h : Hop) → IsArc t e → IsPassed t tree (hops_at table e.from) e h → IsFirstHop t tree e.to h
  IsFirstHop-passed table sound root_at e h arc (tight, from_root) =
      ⊎_elim
      (λ p. (
        e ∷ [],
        (arc, p.0, refl),
        (let zero' : get_or tree.distances e.from None ≡ Some 0 = subst (λ (n : ℕ). get_or tree.distances n None ≡ Some 0) (sym p.0) root_at in
            let at : get_or tree.distances e.from None ≡ Some tight.0 = tight.1 in
            let none : tight.0 ≡ 0 = cc in
            tight.2 ∙ ap (λ (n : ℕ). Some n) (let k : tight.0 + e.cost ≡ e.cost + 0 = omega arith in k)),
        ap (λ (x : Hop). Some x) (sym (first_at-named t e (shape.in_range e arc)) ∙ p.1),
      ))
      (λ q. longer q.0 (sound e.from q.0 q.1) q.2)
      from_root
    where
      longer : (g : Hop) → IsFirstHop t tree e.from g → extended g e.link_data ≡ h → IsFirstHop t tree e.to h
      longer g (es, path, least, first) is = (
        es ++ e ∷ [],
        IsPath-push (IsArc t) tree.root e es path arc,
        (let at : get_or tree.distances e.from None ≡ Some tight.0 = tight.1 in
            let same : path_cost es ≡ tight.0 = cc in
            let sum = path_cost-append es (e ∷ []) in
            tight.2 ∙ ap (λ (n : ℕ). Some n) (let k : tight.0 + e.cost ≡ path_cost (es ++ e ∷ []) = omega arith in k)),
        ap (λ (x : List (DirectedEdge Vertex)). first_hop x) (map-append (λ (x : DirectedEdge ℕ). named t x) es (e ∷ []))
            ∙ first_hop-push (names t es) (named t e) ∙ ap (λ (o : Option Hop). Some (hop_over o (named t e))) first ∙ ap (λ (x : Hop). Some x) is,
      )

  -- the edges of a path of least cost are tight
  least_from : (v w : ℕ) (dv : ℕ) (es : List (DirectedEdge ℕ)) → get_or tree.distances v None ≡ Some dv → IsPath (IsArc t) v es w
      → v < length t.vertices → w < length t.vertices → (o : Option ℕ) → get_or tree.distances w None ≡ o → (x : ℕ) → o ≡ Some x → x ≤ dv + path_cost es
  least_from v w dv es at_v path in_v in_w o at_w x is =
      let dist_v : IsDistance (IsArc t) tree.root v (Some dv) = subst (λ (o : Option ℕ). IsDistance (IsArc t) tree.root v o) at_v (measured v in_v) in
      let dist_w : IsDistance (IsArc t) tree.root w (Some x) = subst (λ (o : Option ℕ). IsDistance (IsArc t) tree.root w o) (at_w ∙ is) (measured w in_w) in
      let fs = dist_v.0.0 in
      let cost : path_cost fs ≡ dv = dist_v.0.2 in
      let le : x ≤ path_cost (fs ++ es) = dist_w.1 (fs ++ es) (IsPath-append (IsArc t) tree.root v w fs es dist_v.0.1 path) in
      let sum = path_cost-append fs es in
      omega arith

  -- a vertex that a path reaches has a distance
  reached : (w : ℕ) (fs : List (DirectedEdge ℕ)) → IsPath (IsArc t) tree.root fs w → w < length t.vertices → (x : ℕ) × (get_or tree.distances w None ≡ Some x)
  reached w fs path in_w = by_distance (get_or tree.distances w None) refl
    where
      by_distance : (o : Option ℕ) → get_or tree.distances w None ≡ o → (x : ℕ) × (get_or tree.distances w None ≡ Some x)
      by_distance None is =
          absurd (let none : IsDistance (IsArc t) tree.root w None = subst (λ (o : Option ℕ). IsDistance (IsArc t) tree.root w o) is (measured w in_w) in none fs path)
      by_distance (Some x) is = (x, is)

  -- the first edge of the rest of a path of least cost is tight
  tight_first : (v w dv : ℕ) (e : DirectedEdge ℕ) (es : List (DirectedEdge ℕ)) → IsArc t e → e.from ≡ v → IsPath (IsArc t) e.to es w
      → get_or tree.distances v None ≡ Some dv → get_or tree.distances w None ≡ Some (dv + (e.cost + path_cost es))
      → v < length t.vertices → w < length t.vertices → get_or tree.distances e.to None ≡ Some (dv + e.cost)
  tight_first v w dv e es arc from path at_v at_w in_v in_w =
      let dist_v : IsDistance (IsArc t) tree.root v (Some dv) = subst (λ (o : Option ℕ). IsDistance (IsArc t) tree.root v o) at_v (measured v in_v) in
      let in_to : e.to < length t.vertices = shape.in_range e arc in
      let one : IsPath (IsArc t) v (e ∷ []) e.to = (arc, from, refl) in
      let x = reached e.to (dist_v.0.0 ++ e ∷ []) (IsPath-append (IsArc t) tree.root v e.to dist_v.0.0 (e ∷ []) dist_v.0.1 one) in_to in
      let high : x.0 ≤ dv + path_cost (e ∷ []) = least_from v e.to dv (e ∷ []) at_v one in_v in_to (get_or tree.distances e.to None) refl x.0 x.1 in
      let low : dv + (e.cost + path_cost es) ≤ x.0 + path_cost es = least_from e.to w x.0 es x.1 path in_to in_w
      (get_or tree.distances w None) refl (dv + (e.cost + path_cost es)) at_w in
      let same : x.0 ≡ dv + e.cost = omega arith in
      x.1 ∙ ap (λ (n : ℕ). Some n) same

  -- the state of the path so far: it is empty, at the root, or its first hop is in the table
  abbrev HasFirst : List (List Hop) → ℕ → Option Hop → Type 0
  HasFirst table v o = ((o ≡ None) × (v ≡ tree.root)) ⊎ ((g : Hop) × (o ≡ Some g) × Contains (hops_at table v) g)

  one_more : (table : List (List Hop)) → IsPassedOn t tree table → (v dv : ℕ) (e : DirectedEdge ℕ) (o : Option Hop)
      → IsArc t e → e.from ≡ v → get_or tree.distances v None ≡ Some dv → get_or tree.distances e.to None ≡ Some (dv + e.cost)
      → HasFirst table v o → Contains (hops_at table e.to) (hop_over o (named t e))
  one_more table passed_on v dv e o arc from at_v at_to has =
      let tight : IsTight tree.distances e = (dv, subst (λ (n : ℕ). get_or tree.distances n None ≡ Some dv) (sym from) at_v, at_to) in
      ⊎_elim
      (λ p. subst (λ (x : Option Hop). Contains (hops_at table e.to) (hop_over x (named t e))) (sym p.0)
      (passed_on e (hop_over None (named t e)) arc (tight, inl (from ∙ p.1, first_at-named t e (shape.in_range e arc)))))
      (λ q. subst (λ (x : Option Hop). Contains (hops_at table e.to) (hop_over x (named t e))) (sym q.1)
      (passed_on e (extended q.0 e.link_data) arc (tight, inr (q.0, subst (λ (n : ℕ). Contains (hops_at table n) q.0) (sym from) q.2, refl))))
      has

  along : (table : List (List Hop)) → IsPassedOn t tree table → (es : List (DirectedEdge ℕ)) (v w dv : ℕ) (o : Option Hop)
      → IsPath (IsArc t) v es w → get_or tree.distances v None ≡ Some dv → get_or tree.distances w None ≡ Some (dv + path_cost es)
      → v < length t.vertices → w < length t.vertices → HasFirst table v o → (h : Hop) → hop_along o (names t es) ≡ Some h → Contains (hops_at table w) h
  along table passed_on [] v w dv o path at_v at_w in_v in_w has h is =
      ⊎_elim
      (λ p. (let none : o ≡ None = p.0 in absurd (clash none)))
      (λ q. (let same : q.0 ≡ h = some_same q.0 (sym q.1 ∙ is) in subst (λ (n : ℕ). Contains (hops_at table n) h) path (subst (λ (x : Hop). Contains (hops_at table v) x) same q.2)))
      has
    where
      clash : o ≡ None → ⊥
      clash none = cc

      some_same : (g : Hop) → Some g ≡ Some h → g ≡ h
      some_same g e = cc
  along table passed_on (e ∷ es) v w dv o path at_v at_w in_v in_w has h is =
      let at_to : get_or tree.distances e.to None ≡ Some (dv + e.cost) = tight_first v w dv e es path.0 path.1 path.2 at_v at_w in_v in_w in
      let more : Contains (hops_at table e.to) (hop_over o (named t e)) = one_more table passed_on v dv e o path.0 path.1 at_v at_to has in
      along table passed_on es e.to w (dv + e.cost) (Some (hop_over o (named t e))) path.2 at_to
      (at_w ∙ ap (λ (n : ℕ). Some n) (sym (add_assoc dv e.cost (path_cost es))))
      (shape.in_range e path.0) in_w (inr (hop_over o (named t e), refl, more)) h is

  -- where all hops are passed on, each first hop of a path of least cost is in the table
  pub Contains-first : (table : List (List Hop)) → IsPassedOn t tree table → get_or tree.distances tree.root None ≡ Some 0
      → tree.root < length t.vertices → (w : ℕ) (h : Hop) → w < length t.vertices → IsFirstHop t tree w h → Contains (hops_at table w) h
  Contains-first table passed_on root_at in_root w h in_w (es, path, least, first) =
      along table passed_on es tree.root w 0 None path root_at
      (least ∙ ap (λ (n : ℕ). Some n)
      (let k : path_cost es ≡ 0 + path_cost es = omega arith in k)) in_root in_w (inl (refl, refl)) h (first_hop-along (names t es) ∙ first)
