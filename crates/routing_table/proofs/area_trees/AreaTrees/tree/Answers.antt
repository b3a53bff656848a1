use Rattle.std.proofs.Common.{sym, subst}
use Rattle.area_graph.specs.declared.vertex.Vertex.TheVariants.{Router}
use Rattle.spf.specs.Distances.{IsTreeOf}
use Rattle.routing_table.specs.AreaTrees.{AreaTreesValue, RouterTreeValue, IsTreeIn}
use Rattle.routing_table.proofs.TreeMaps.{tree_found}
use Rattle.routing_table.proofs.area_trees.AreaTrees.tree.Goals as goal

pub returns : goal.returns
returns g c =
    let found : IsTreeIn c.self.inside.graph c.args.router c.in_ok-kept.kept.now =
    tree_found c.self.inside.graph c.self.inside.trees.entries c.args.router c.in_ok-kept.kept.now c.self.invariant (sym c.in_ok-kept.ensures.value) in
    let here : IsTreeIn c.self.inside.graph c.args.router (record { tree = c.kept.inside.tree; hops = c.kept.inside.hops }) =
    subst (λ (t : RouterTreeValue). IsTreeIn c.self.inside.graph c.args.router t) (sym c.kept.view_is) found in
    subst (λ (a : AreaTreesValue). IsTreeOf a.graph (Router c.args.router) c.kept.inside.tree) c.self.view_is here.tree
