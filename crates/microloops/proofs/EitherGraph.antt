-- The routers of two graphs, and where steps lead from.
use Rattle.std.proofs.Common.{◌≡◌, Bool, true, false, cond, List, [], ◌∷◌, Some, refl, sym, subst, inl, inr, ⊎_elim}
use Rattle.std.specs.List.{All, Contains, find}
use Rattle.std.specs.Ordering.{eq_by_cmp}
use Rattle.std.specs.BTreeSet.{BTreeSet}
use Rattle.std.proofs.lemmas.List.Elements.{All-contains, Contains-append_cases, Contains-append_left, Contains-append_right}
use Rattle.lsa_codec.specs.Order.{router_cmp}
use Rattle.lsa_codec.specs.declared.address.RouterId.{RouterId}
use Rattle.area_graph.proofs.MemberLemmas.{Contains-from_In, In, In-from_Contains, map-In}
use Rattle.forwarding.specs.Graphs.{StepValue, next_in}
use Rattle.hop_ends.specs.Ways.{routers_over}
use Rattle.microloops.specs.Changeover.{next_in_either, routers_in_either, routers_of}
use Rattle.microloops.specs.steps.Groups.{Has}
use Rattle.microloops.specs.steps.Matched.{ways_of}
use Rattle.microloops.proofs.Sets.{at_same}

-- the router of a step is in the graph
in_graph : (graph : List StepValue) (v w : RouterId)
    → In (routers_over (ways_of (find (λ s. eq_by_cmp router_cmp v s.router) graph))) w → In (routers_of graph) v
in_graph [] v w i = absurd i
in_graph (s ∷ graph) v w i = by (eq_by_cmp router_cmp v s.router) refl i (in_graph graph v w)
  where
    by : (b : Bool) → eq_by_cmp router_cmp v s.router ≡ b
        → In (routers_over (ways_of (cond b (Some s) (find (λ s. eq_by_cmp router_cmp v s.router) graph)))) w
        → (In (routers_over (ways_of (find (λ s. eq_by_cmp router_cmp v s.router) graph))) w → In (routers_of graph) v)
        → In (s.router ∷ routers_of graph) v
    by true is j rest = inl (sym (at_same v s.router is))
    by false is j rest = inr (rest j)

sends_from : (graph : List StepValue) (v w : RouterId) → Contains (next_in graph v) w → Contains (routers_of graph) v
sends_from graph v w c = Contains-from_In (routers_of graph) v (in_graph graph v w (In-from_Contains (next_in graph v) w c))

module _ (before after : List StepValue) where
  pub leads : (v w : RouterId) → Contains (next_in_either before after v) w → Contains (routers_in_either before after) v
  leads v w c = ⊎_elim
      (λ l. Contains-append_left (routers_of before) (routers_of after) v (sends_from before v w l))
      (λ r. Contains-append_right (routers_of before) (routers_of after) v (sends_from after v w r))
      (Contains-append_cases (next_in before v) (next_in after v) w c)

  module _ (routers : BTreeSet RouterId) (first : All (λ s. Has routers s.router) before) (second : All (λ s. Has routers s.router) after) where
    has_of : (graph : List StepValue) → All (λ s. Has routers s.router) graph → (v : RouterId) → Contains (routers_of graph) v → Has routers v
    has_of graph all v c =
        let f = map-In (λ (s : StepValue). s.router) graph v (In-from_Contains (routers_of graph) v c) in
        subst (λ (x : RouterId). Has routers x) f.2 (All-contains (λ s. Has routers s.router) graph f.0 all (Contains-from_In graph f.0 f.1))

    pub has_either : (v w : RouterId) → Contains (next_in_either before after v) w → Has routers v
    has_either v w c = ⊎_elim
        (λ l. has_of before first v (sends_from before v w l))
        (λ r. has_of after second v (sends_from after v w r))
        (Contains-append_cases (next_in before v) (next_in after v) w c)
