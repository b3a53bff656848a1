use Rattle.std.proofs.Common.{◌∙◌, sym, ap}
use Rattle.area_graph.specs.declared.vertex.Vertex.TheVariants.{Router}
use Rattle.routing_table.specs.AreaTrees.{AreaTreesValue, has_tree}
use Rattle.routing_table.proofs.Counted.{one_missing}
use Rattle.routing_table.proofs.TreeMaps.{only_here, tree_keeps, trees_stay}
use Rattle.routing_table.proofs.area_trees.AreaTrees.grow.Goals as goal

pub returns-in_err-hops-clause-at_most : goal.returns-in_err-hops-clause-at_most
returns-in_err-hops-clause-at_most g c =
    one_missing (has_tree c.args.self.now c.args.router) c.args.meter.now c.tree_of.new.meter
    (ap (λ (a : AreaTreesValue). has_tree a c.args.router) (sym c.self.view_is) ∙ sym c.contains_key.ensures ∙ c.if-contains_key.false) c.tree_of.ensures.meter

pub returns-in_err-insert-clause-at_most : goal.returns-in_err-insert-clause-at_most
returns-in_err-insert-clause-at_most g c =
    one_missing (has_tree c.args.self.now c.args.router) c.args.meter.now c.tree_of.new.meter
    (ap (λ (a : AreaTreesValue). has_tree a c.args.router) (sym c.self.view_is) ∙ sym c.contains_key.ensures ∙ c.if-contains_key.false) c.tree_of.ensures.meter

pub returns-clause-at_most : goal.returns-clause-at_most
returns-clause-at_most g c =
    one_missing (has_tree c.args.self.now c.args.router) c.args.meter.now c.tree_of.new.meter
    (ap (λ (a : AreaTreesValue). has_tree a c.args.router) (sym c.self.view_is) ∙ sym c.contains_key.ensures ∙ c.if-contains_key.false) c.tree_of.ensures.meter

pub invariant_of-self : goal.invariant_of-self
invariant_of-self g c = rw c.in_err-insert.ensures.err c.self.invariant

pub invariant_of-self-2 : goal.invariant_of-self-2
invariant_of-self-2 g c =
    trees_stay c.self.inside.trees.entries c.insert.new.self.entries c.args.router _ c.in_ok-insert.ensures.updates.0 c.self.inside.graph
    (record {
      tree = c.in_ok-tree.ensures.tree;
      hops = c.in_ok-hops.ensures.table (Router c.args.router) c.in_ok-tree.ensures.tree;
    }) c.self.invariant

pub returns-clause-keeps : goal.returns-clause-keeps
returns-clause-keeps g c = λ other had.
    tree_keeps c.self.inside.trees.entries c.insert.new.self.entries c.args.router _ c.in_ok-insert.ensures.updates.0 other
    (ap (λ (a : AreaTreesValue). has_tree a other) c.self.view_is ∙ had)

pub returns-clause-no_more : goal.returns-clause-no_more
returns-clause-no_more g c = λ other has lacked.
    only_here c.self.inside.trees.entries c.insert.new.self.entries c.args.router _ c.in_ok-insert.ensures.updates.0 other has
    (ap (λ (a : AreaTreesValue). has_tree a other) c.self.view_is ∙ lacked)
