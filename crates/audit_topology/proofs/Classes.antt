-- Paths lead both ways, so the parts of an area are the classes of its routers.
use Rattle.std.proofs.Common.{◌≡◌, ◌∙◌, ℕ, Bool, true, false, cond, eqb, eq-eqb, eqb-true, List, [], ◌∷◌, ◌++◌, Option, None, Some, append_assoc, refl, sym, ap, subst, inl, inr, ⊎_elim}
use Rattle.std.specs.Prelude.{◌&&◌, ◌↔◌, fold, is_some}
use Rattle.std.specs.List.{Contains}
use Rattle.std.proofs.lemmas.List.{append-nil}
use Rattle.std.proofs.lemmas.Bool.{and_from, and_parts, false≢true}
use Rattle.lsa_codec.specs.declared.address.Addr.{Addr}
use Rattle.lsa_codec.specs.declared.address.RouterId.{RouterId}
use Rattle.area_graph.specs.declared.vertex.Vertex.{Vertex}
use Rattle.area_graph.specs.declared.vertex.Vertex.TheVariants.{Router, Network}
use Rattle.area_graph.specs.AllPaths.{distance_of}
use Rattle.area_graph.specs.Area.{used}
use Rattle.area_graph.specs.AreaEdges.{area_edges}
use Rattle.area_graph.specs.Joins.{Joins}
use Rattle.area_graph.specs.Paths.{DirectedEdge, IsDistance, IsPath}
use Rattle.area_graph.proofs.AllPathsLemmas.{IsDistance-distance_of}
use Rattle.area_graph.proofs.JoinLemmas.{Contains-area_edges}
use Rattle.area_graph.proofs.MemberLemmas.{In, In-cases, In-filter, In-from_Contains, In-left, In-list_any, In-right, filter-In, list_any-In}
use Rattle.area_graph.proofs.PathLemmas.{IsPath-append, IsPath-push}
use Rattle.audit_areas.specs.Areas.{AreaValue, edges_in, lsas_in, routers_in}
use Rattle.audit_topology.specs.Parts.{are_together, is_in, is_in_some, is_path_between, part_of, parts_of, with_part}

-- ---- edges and paths

module _ (lsas : List (List ℕ)) where
  abbrev all : List (DirectedEdge Vertex)
  all = area_edges lsas

  record Back (e : DirectedEdge Vertex) : Type 0 where
    edge : DirectedEdge Vertex
    there : Contains all edge
    starts : edge.from ≡ e.to
    ends : edge.to ≡ e.from

  back_by : (v w : Vertex) (cost : ℕ) (d : Addr) → Joins lsas v w cost d → (c : ℕ) × (a : Addr) × Joins lsas w v c a
  back_by (Router v) (Router w) cost d j = let r = j.1 in (r.0, r.1, (r.2, (cost, d, j.0)))
  back_by (Router v) (Network n) cost d j = (0, d, (refl, (cost, j.0), j.1))
  back_by (Network n) (Router x) cost d j = let has = j.1 in (has.0, d, (has.1, j.2))
  back_by (Network n) (Network m) cost d j = absurd j

  back_of : (e : DirectedEdge Vertex) → Contains all e → Back e
  back_of e h =
      let r = back_by e.from e.to e.cost e.link_data ((Contains-area_edges lsas e).0 h) in
      let f : DirectedEdge Vertex = record { from = e.to; to = e.from; cost = r.0; link_data = r.1 } in
      record { edge = f; there = (Contains-area_edges lsas f).1 r.2; starts = refl; ends = refl }

  abbrev Path : Vertex → Vertex → Type 0
  Path v w = (es : List (DirectedEdge Vertex)) × IsPath (λ e. Contains all e) v es w

  reversed : (v w : Vertex) (es : List (DirectedEdge Vertex)) → IsPath (λ e. Contains all e) v es w → Path w v
  reversed v w [] p = ([], sym p)
  reversed v w (e ∷ es) p =
      let rest = reversed e.to w es p.2 in
      let b = back_of e p.0 in
      let up : IsPath (λ f. Contains all f) w rest.0 (b.edge).from = subst (λ (u : Vertex). IsPath (λ f. Contains all f) w rest.0 u) (sym b.starts) rest.1 in
      let pushed = IsPath-push (λ f. Contains all f) w b.edge rest.0 up b.there in
      (rest.0 ++ b.edge ∷ [], subst (λ (u : Vertex). IsPath (λ f. Contains all f) w (rest.0 ++ b.edge ∷ []) u) (b.ends ∙ p.1) pushed)

  path_where : (v w : Vertex) → is_some (distance_of all v w) ≡ true → Path v w
  path_where v w some = by (distance_of all v w) some (IsDistance-distance_of all v w)
    where
      by : (o : Option ℕ) → is_some o ≡ true → IsDistance (λ e. Contains all e) v w o → Path v w
      by None h is = absurd (false≢true h)
      by (Some d) h is = ((is.0).0, (is.0).1)

  where_path : (v w : Vertex) → Path v w → is_some (distance_of all v w) ≡ true
  where_path v w p = by (distance_of all v w) (IsDistance-distance_of all v w)
    where
      by : (o : Option ℕ) → IsDistance (λ e. Contains all e) v w o → is_some o ≡ true
      by None is = absurd (is p.0 p.1)
      by (Some d) is = refl

  here : (r : RouterId) → is_path_between all r r ≡ true
  here r = where_path (Router r) (Router r) ([], refl)

  both_ways : (r s : RouterId) → is_path_between all r s ≡ true → is_path_between all s r ≡ true
  both_ways r s h =
      let p = path_where (Router r) (Router s) h in
      where_path (Router s) (Router r) (reversed (Router r) (Router s) p.0 p.1)

  joined : (r s q : RouterId) → is_path_between all r s ≡ true → is_path_between all s q ≡ true → is_path_between all r q ≡ true
  joined r s q one two =
      let p = path_where (Router r) (Router s) one in
      let t = path_where (Router s) (Router q) two in
      where_path (Router r) (Router q)
      (p.0 ++ t.0, IsPath-append (λ e. Contains all e) (Router r) (Router s) (Router q) p.0 t.0 p.1 t.1)

-- ---- routers in lists

same_router : (a b : RouterId) → eqb a.0 b.0 ≡ true → a ≡ b
same_router a b h = ap (λ n. record { 0 = n }) (eqb-true a.0 b.0 h)

is_in-In : (router : RouterId) (part : List RouterId) → is_in router part ≡ true → In part router
is_in-In router part h =
    let found = list_any-In (λ other. eqb other.0 router.0) part h in
    subst (λ (r : RouterId). In part r) (same_router found.0 router found.2) found.1

In-is_in : (router : RouterId) (part : List RouterId) → In part router → is_in router part ≡ true
In-is_in router part i = In-list_any (λ other. eqb other.0 router.0) part router i (eq-eqb router.0 router.0 refl)

-- ---- parts

module _ (area : AreaValue) where
  abbrev lsas : List (List ℕ)
  lsas = used (lsas_in area)

  abbrev leads : RouterId → RouterId → Bool
  leads = is_path_between (edges_in area)

  -- each part is that of a router, and has each router that was looked at
  record AreParts (seen : List RouterId) (parts : List (List RouterId)) : Type 0 where
    each : (part : List RouterId) → In parts part → (r : RouterId) × (part ≡ part_of area r)
    all_in : (router : RouterId) → In seen router → is_in_some router parts ≡ true

  more_in : (router : RouterId) (parts : List (List RouterId)) (part : List RouterId) → is_in_some router parts ≡ true
      → is_in_some router (parts ++ part ∷ []) ≡ true
  more_in router parts part h =
      let found = list_any-In (is_in router) parts h in
      In-list_any (is_in router) (parts ++ part ∷ []) found.0 (In-left parts (part ∷ []) found.0 found.1) found.2

  one_more : (seen : List RouterId) (parts : List (List RouterId)) (router : RouterId) → In (routers_in area) router → AreParts seen parts
      → AreParts (seen ++ router ∷ []) (with_part area parts router)
  one_more seen parts router listed are = by (is_in_some router parts) refl
    where
      in_new : is_in_some router (parts ++ part_of area router ∷ []) ≡ true
      in_new =
          In-list_any (is_in router) (parts ++ part_of area router ∷ []) (part_of area router)
          (In-right parts (part_of area router ∷ []) (part_of area router) (inl refl))
          (In-is_in router (part_of area router) (In-filter (leads router) (routers_in area) router listed (here lsas router)))

      by : (b : Bool) → is_in_some router parts ≡ b → AreParts (seen ++ router ∷ []) (cond b parts (parts ++ part_of area router ∷ []))
      by true is = record {
        each = are.each;
        all_in = λ other i. ⊎_elim (λ before. are.all_in other before) (⊎_elim (λ q. ap (λ r. is_in_some r parts) (sym q) ∙ is) (λ none. absurd none))
            (In-cases seen (router ∷ []) other i);
      }
      by false is = record {
        each = λ part i. ⊎_elim (λ before. are.each part before) (⊎_elim (λ q. (router, sym q)) (λ none. absurd none))
            (In-cases parts (part_of area router ∷ []) part i);
        all_in = λ other i. ⊎_elim (λ before. more_in other parts (part_of area router) (are.all_in other before))
            (⊎_elim (λ q. ap (λ r. is_in_some r (parts ++ part_of area router ∷ [])) (sym q) ∙ in_new) (λ none. absurd none))
            (In-cases seen (router ∷ []) other i);
      }

  all_more : (seen left : List RouterId) (parts : List (List RouterId)) → ((router : RouterId) → In left router → In (routers_in area) router)
      → AreParts seen parts → AreParts (seen ++ left) (fold (with_part area) parts left)
  all_more seen [] parts listed are = subst (λ (s : List RouterId). AreParts s parts) (sym (append-nil seen)) are
  all_more seen (router ∷ left) parts listed are =
      subst (λ (s : List RouterId). AreParts s (fold (with_part area) (with_part area parts router) left)) (append_assoc seen (router ∷ []) left)
      (all_more (seen ++ router ∷ []) left (with_part area parts router) (λ r i. listed r (inr i))
      (one_more seen parts router (listed router (inl refl)) are))

  are_parts : AreParts (routers_in area) (parts_of area)
  are_parts =
      all_more [] (routers_in area) [] (λ r i. i)
      (record { each = λ part i. absurd i; all_in = λ router i. absurd i })

  -- the routers of a part
  in_part : (f r : RouterId) → is_in r (part_of area f) ≡ true → leads f r ≡ true
  in_part f r h = (filter-In (leads f) (routers_in area) r (is_in-In r (part_of area f) h)).1

  pub together : (one other : RouterId) → Contains (routers_in area) one → Contains (routers_in area) other
      → (leads one other ≡ true) ↔ (are_together one other (parts_of area) ≡ true)
  together one other has_one has_other = (there, back)
    where
      there : leads one other ≡ true → are_together one other (parts_of area) ≡ true
      there h =
          let found = list_any-In (is_in one) (parts_of area) (are_parts.all_in one (In-from_Contains (routers_in area) one has_one)) in
          let of = are_parts.each found.0 found.1 in
          let first : leads of.0 one ≡ true = in_part of.0 one (ap (is_in one) (sym of.1) ∙ found.2) in
          let second : is_in other (part_of area of.0) ≡ true =
          In-is_in other (part_of area of.0)
          (In-filter (leads of.0) (routers_in area) other (In-from_Contains (routers_in area) other has_other) (joined lsas of.0 one other first h)) in
          In-list_any (λ part. is_in one part && is_in other part) (parts_of area) found.0 found.1
          (and_from (is_in one found.0) (is_in other found.0) found.2 (ap (is_in other) of.1 ∙ second))

      back : are_together one other (parts_of area) ≡ true → leads one other ≡ true
      back h =
          let found = list_any-In (λ part. is_in one part && is_in other part) (parts_of area) h in
          let both = and_parts (is_in one found.0) (is_in other found.0) found.2 in
          let of = are_parts.each found.0 found.1 in
          joined lsas one of.0 other (both_ways lsas of.0 one (in_part of.0 one (ap (is_in one) (sym of.1) ∙ both.0)))
          (in_part of.0 other (ap (is_in other) (sym of.1) ∙ both.1))
