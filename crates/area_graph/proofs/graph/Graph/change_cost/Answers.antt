use Rattle.std.proofs.Common.{◌≡◌, ◌≤◌, ℕ, Bool, true, false, List, map, sym, ◌∙◌, subst, arith, refl}
use Rattle.std.specs.Prelude.{slice_set}
use Rattle.std.specs.Bool.{OnFalse, OnTrue}
use Rattle.std.specs.List.{count_by}
use Rattle.area_graph.specs.declared.edge.Edge.{Edge}
use Rattle.area_graph.specs.declared.vertex.Vertex.TheVariants.{Router}
use Rattle.area_graph.specs.Topology.{IsTopology, Topology, row_at}
use Rattle.area_graph.specs.CostChanges.{AreChanged}
use Rattle.area_graph.specs.Graphs.{AreOfArea, IsGraphOf}
use Rattle.area_graph.specs.steps.CostRows.{leads_to, with_cost}
use Rattle.area_graph.proofs.ChangedGraphs.{changed_graph}
use Rattle.area_graph.proofs.ChangedTopology.{with_cost-topology}
use Rattle.area_graph.proofs.VertexNumbers.{found}
use Rattle.area_graph.proofs.graph.Graph.change_cost.Goals as goal

pub invariant_of-self : goal.invariant_of-self
invariant_of-self g c =
    (by c.set_cost.result c.set_cost.ensures.one c.set_cost.ensures.set c.set_cost.ensures.same, c.self.invariant.1)
  where
    old : Topology
    old = record { vertices = c.self.inside.vertices.keys; rows = c.self.inside.rows }

    new : Topology
    new = record { vertices = c.self.inside.vertices.keys; rows = c.set_cost.new.self }

    shape : IsTopology (record { vertices = c.self.inside.vertices.keys; rows = c.self.inside.rows })
    shape = c.self.invariant.0

    by : (b : Bool) → OnTrue b (count_by (leads_to c.in-Some-number_of.to c.args.change.link_data) (row_at old c.in-Some.from) ≤ 1)
        → OnTrue b (c.set_cost.new.self ≡ slice_set c.self.inside.rows c.in-Some.from
        (map (with_cost c.in-Some-number_of.to c.args.change.link_data c.args.change.cost) (row_at old c.in-Some.from)))
        → OnFalse b (c.set_cost.new.self ≡ c.self.inside.rows)
        → IsTopology (record { vertices = c.self.inside.vertices.keys; rows = c.set_cost.new.self })
    by true one set same =
        let at = found c.self.inside.vertices.keys (Router c.args.change.from) c.in-Some.from (sym c.number_of.ensures.number ∙ c.in-Some.is) in
        with_cost-topology old new c.in-Some.from c.in-Some-number_of.to c.args.change.link_data c.args.change.cost (Router c.args.change.from)
        (omega (arith, c.if-change-eq0.false)) c.set_cost.ensures.small refl at.1 (omega (arith, at.0, shape.a_row_each)) one refl set shape
    by false one set same = subst (λ (rows : List (List Edge)). IsTopology (record { vertices = c.self.inside.vertices.keys; rows = rows })) (sym same) shape

pub returns-clause-graph : goal.returns-clause-graph
returns-clause-graph g c = by c.set_cost.result c.set_cost.ensures.one c.set_cost.ensures.set
  where
    old : Topology
    old = record { vertices = c.self.inside.vertices.keys; rows = c.self.inside.rows }

    by : (b : Bool) → OnTrue b (count_by (leads_to c.in-Some-number_of.to c.args.change.link_data) (row_at old c.in-Some.from) ≤ 1)
        → OnTrue b (c.set_cost.new.self ≡ slice_set c.self.inside.rows c.in-Some.from
        (map (with_cost c.in-Some-number_of.to c.args.change.link_data c.args.change.cost) (row_at old c.in-Some.from)))
        → OnTrue b ((lsas others : List (List ℕ)) → AreOfArea others → AreChanged c.args.change lsas others → IsGraphOf lsas c.args.self.now
        → IsGraphOf others (record { vertices = c.self.inside.vertices.keys; rows = c.set_cost.new.self }))
    by false one set = tt
    by true one set = λ lsas others are changed graph.
        changed_graph c.args.change lsas others are changed old (record { vertices = c.self.inside.vertices.keys; rows = c.set_cost.new.self })
        (subst (λ (t : Topology). IsGraphOf lsas t) (sym c.self.view_is) graph) c.set_cost.ensures.small c.in-Some.from c.in-Some-number_of.to
        (sym c.number_of.ensures.number ∙ c.in-Some.is) (sym c.number_of-2.ensures.number ∙ c.in-Some-number_of.is) one refl set
