-- The LSAs in use of the vertices on paths of least cost.
use Rattle.std.proofs.Common.{◌≡◌, ℕ, Bool, true, false, eqb, not, List, [], ◌∷◌, length, Some, refl, sym, ap, ◌∙◌, subst, ◌⊎◌, inl, inr, ⊎_elim}
use Rattle.std.specs.Prelude.{◌↔◌, ◌&&◌, ◌||◌, ◌==◌}
use Rattle.std.specs.List.{Contains, list_any}
use Rattle.std.proofs.Math.Dec.{eqb-suc-zero}
use Rattle.std.proofs.lemmas.Bool.{and_from, and_parts, eq-eqb, eqb-true, false≢true}
use Rattle.area_graph.specs.declared.vertex.Vertex.{Vertex}
use Rattle.area_graph.specs.declared.vertex.Vertex.TheVariants.{Router, Network}
use Rattle.area_graph.specs.Area.{used, vertex_of}
use Rattle.area_graph.specs.Paths.{DirectedEdge}
use Rattle.area_graph.specs.Vertex.{is_same}
use Rattle.area_graph.specs.contracts.vertex.VertexPartialEq.TheImpl as vertex_impl
use Rattle.area_graph.proofs.MemberLemmas.{Contains-from_In, In, In-from_Contains, In-list_any, list_any-In}
use Rattle.lsa_names.specs.LsaNames.{lsa_name}
use Rattle.least_paths.specs.LeastPaths.{edge_of}
use Rattle.least_paths.specs.declared.least_edge.LeastEdge.{LeastEdge}
use Rattle.area_candidates.specs.Views.{AreaViewValue, lsas_in}
use Rattle.explanation.specs.WaySteps.{IsAt, IsOnPaths, IsOnWay, rest_of}
use Rattle.explanation.specs.declared.rest.Rest.{Rest}
use Rattle.explanation.specs.steps.Edges.{AreEdgesIn}
use Rattle.explanation.specs.steps.Resting.{IsLsaOnPaths, IsVertexRestBy, is_on_paths}

-- ---- the same vertex

same_is : (v w : Vertex) → is_same v w ≡ true → v ≡ w
same_is (Router a) (Router b) h = let same = eqb-true a.0 b.0 h in λ i. Router (record { 0 = same i })
same_is (Network a) (Network b) h = let same = eqb-true a.0 b.0 h in λ i. Network (record { 0 = same i })
same_is (Router a) (Network b) h = absurd (false≢true h)
same_is (Network a) (Router b) h = absurd (false≢true h)

is_itself : (v : Vertex) → is_same v v ≡ true
is_itself (Router a) = eq-eqb a.0 a.0 refl
is_itself (Network a) = eq-eqb a.0 a.0 refl

is_other : (v w : Vertex) → v ≡ w → is_same v w ≡ true
is_other v w q = subst (λ (x : Vertex). is_same v x ≡ true) q (is_itself v)

-- the code's `==`
abbrev pub vertex_eq : Vertex → Vertex → Bool
vertex_eq = (vertex_impl.ghosts).eq

equal_is : (v w : Vertex) → vertex_eq v w ≡ is_same v w
equal_is (Router a) (Router b) = refl
equal_is (Router a) (Network b) = refl
equal_is (Network a) (Router b) = refl
equal_is (Network a) (Network b) = refl

pub contains_is : (targets : List Vertex) (v : Vertex) → list_any (λ target. vertex_eq target v) targets ≡ list_any (λ target. is_same target v) targets
contains_is targets v = λ i. list_any (λ target. equal_is target v i) targets

-- a target among others
pub any_member : (targets : List Vertex) (v : Vertex) → list_any (λ target. is_same target v) targets ≡ true → Contains targets v
any_member targets v h =
    let t = list_any-In (λ target. is_same target v) targets h in
    Contains-from_In targets v (subst (λ (x : Vertex). In targets x) (same_is t.0 v t.2) t.1)

pub member_any : (targets : List Vertex) (v : Vertex) → Contains targets v → list_any (λ target. is_same target v) targets ≡ true
member_any targets v t = In-list_any (λ target. is_same target v) targets v (In-from_Contains targets v t) (is_itself v)

-- ---- alternatives

or_cases : (a b : Bool) → (a || b) ≡ true → (a ≡ true) ⊎ (b ≡ true)
or_cases true b h = inl refl
or_cases false b h = inr h

or_left : (a b : Bool) → a ≡ true → (a || b) ≡ true
or_left a b h = ap (λ (c : Bool). c || b) h

or_right : (a b : Bool) → b ≡ true → (a || b) ≡ true
or_right true b h = refl
or_right false b h = h

some_member : {X : Type 0} (xs : List X) → not (length xs == 0) ≡ true → (x : X) × Contains xs x
some_member [] h = absurd (false≢true h)
some_member (x ∷ xs) h = (x, Contains-from_In (x ∷ xs) x (inl refl))

has_member : {X : Type 0} (xs : List X) (x : X) → Contains xs x → not (length xs == 0) ≡ true
has_member [] x c = absurd (In-from_Contains [] x c)
has_member (y ∷ xs) x c = ap not (eqb-suc-zero (length xs))

-- ---- vertices on the paths

module _ (view : AreaViewValue) (targets : List Vertex) (edges : List LeastEdge) (are : AreEdgesIn view targets edges)
    (near : (e : DirectedEdge Vertex) → IsOnWay view targets e → (d : ℕ) × IsAt view targets e.from d) where
  abbrev root : Vertex
  root = Router view.router

  abbrev at_target : Vertex → Bool
  at_target v = list_any (λ target. is_same target v) targets

  abbrev at_root : Vertex → Bool
  at_root v = is_same v root && not (length targets == 0)

  abbrev at_end : Vertex → Bool
  at_end v = list_any (λ (e : LeastEdge). is_same e.from v || is_same e.to v) edges

  on-from_end : (v : Vertex) → at_end v ≡ true → IsOnPaths view targets v
  on-from_end v h =
      let e = list_any-In (λ (e : LeastEdge). is_same e.from v || is_same e.to v) edges h in
      let on : IsOnWay view targets (edge_of e.0) = ((are.members e.0).0 (Contains-from_In edges e.0 e.1)).0 in
      inr (inr (
        edge_of e.0,
        on,
        ⊎_elim (λ f. inl (same_is (e.0).from v f)) (λ t. inr (same_is (e.0).to v t)) (or_cases (is_same (e.0).from v) (is_same (e.0).to v) e.2),
      ))

  on-from_root : (v : Vertex) → at_root v ≡ true → IsOnPaths view targets v
  on-from_root v h =
      let both = and_parts (is_same v root) (not (length targets == 0)) h in
      let some = some_member targets both.1 in
      inr (inl (some.0, some.1, same_is v root both.0))

  on-from_target : (v : Vertex) → at_target v ≡ true → IsOnPaths view targets v
  on-from_target v h = inl (any_member targets v h)

  pub on-is : (v : Vertex) → is_on_paths view.router targets edges v ≡ true → IsOnPaths view targets v
  on-is v h =
      ⊎_elim
      (λ t. on-from_target v t)
      (λ r. ⊎_elim (λ a. on-from_root v a) (λ e. on-from_end v e) (or_cases (at_root v) (at_end v) r))
      (or_cases (at_target v) (at_root v || at_end v) h)

  end-is : (v : Vertex) (e : DirectedEdge Vertex) → IsOnWay view targets e → (e.from ≡ v) ⊎ (e.to ≡ v) → at_end v ≡ true
  end-is v e on end =
      let at = near e on in
      let least : LeastEdge = record { from = e.from; to = e.to; cost = e.cost; link_data = e.link_data; distance = at.0 } in
      In-list_any (λ (x : LeastEdge). is_same x.from v || is_same x.to v) edges least
      (In-from_Contains edges least ((are.members least).1 (on, at.1)))
      (⊎_elim
      (λ f. or_left (is_same e.from v) (is_same e.to v) (is_other e.from v f))
      (λ t. or_right (is_same e.from v) (is_same e.to v) (is_other e.to v t)) end)

  pub is-on : (v : Vertex) → IsOnPaths view targets v → is_on_paths view.router targets edges v ≡ true
  is-on v on = by on
    where
      by : IsOnPaths view targets v → (at_target v || (at_root v || at_end v)) ≡ true
      by (inl t) =
          or_left (at_target v) (at_root v || at_end v) (member_any targets v t)
      by (inr (inl (target, there, is))) =
          or_right (at_target v) (at_root v || at_end v)
          (or_left (at_root v) (at_end v)
          (and_from (is_same v root) (not (length targets == 0)) (is_other v root is) (has_member targets target there)))
      by (inr (inr (e, way, end))) =
          or_right (at_target v) (at_root v || at_end v) (or_right (at_root v) (at_end v) (end-is v e way end))

  -- ---- their LSAs

  abbrev pub OfUsed : Rest → Type 0
  OfUsed rest = (lsa : List ℕ) × Contains (used (lsas_in view)) lsa × IsLsaOnPaths view targets edges lsa rest

  rest-from_used : (rest : Rest) → OfUsed rest → IsVertexRestBy view targets rest
  rest-from_used rest (lsa, there, (on, is)) = (
    lsa_name (Some view.area) lsa,
    (vertex_of lsa, lsa, on-is (vertex_of lsa) on, record { in_use = there; own = refl }, refl),
    is,
  )

  used-from_rest : (rest : Rest) → IsVertexRestBy view targets rest → OfUsed rest
  used-from_rest rest (name, (v, lsa, on, of, called), is) = (
    lsa,
    of.in_use,
    (is-on (vertex_of lsa) (subst (λ (x : Vertex). IsOnPaths view targets x) (sym of.own) on), is ∙ ap rest_of called),
  )

  pub of_used : (rest : Rest) → OfUsed rest ↔ IsVertexRestBy view targets rest
  of_used rest = (rest-from_used rest, used-from_rest rest)
