use Rattle.std.proofs.Common.{sym, subst}
use Rattle.area_graph.specs.Graphs.{IsGraphOf}
use Rattle.lsdb.specs.declared.section.Section.TheVariants.{Area}
use Rattle.lsdb.specs.Lists.{lsas_of}
use Rattle.lsdb.specs.Slots.{lists_of}
use Rattle.area_routes.specs.AreaResults.{area_result}
use Rattle.area_routes.specs.StubLinks.{AreStubLinksOf}
use Rattle.routing_table.specs.AreaTrees.{AreaTreesValue, RouterTreeValue, IsTreeIn}
use Rattle.routing_table.proofs.TreeMaps.{if_given, tree_found}
use Rattle.routing_table.proofs.area_trees.AreaTrees.result_of.Goals as goal

pub build-requires-clause-tree : goal.build-requires-clause-tree
build-requires-clause-tree g c =
    let found : IsTreeIn c.self.inside.graph c.args.router c.in-Some.kept.now =
    tree_found c.self.inside.graph c.self.inside.trees.entries c.args.router c.in-Some.kept.now c.self.invariant (sym c.in-Some.ensures.value) in
    let here : IsTreeIn c.self.inside.graph c.args.router (record { tree = c.kept.inside.tree; hops = c.kept.inside.hops }) =
    subst (λ (t : RouterTreeValue). IsTreeIn c.self.inside.graph c.args.router t) (sym c.kept.view_is) found in (
      c.args.router,
      record {
        of_area = subst (λ (a : AreaTreesValue). IsGraphOf (lsas_of (Area c.args.area) (lists_of c.args.database.now)) a.graph)
            (sym c.self.view_is) c.requires.area.graph;
        of_graph = here.tree;
        of_tree = here.hops;
      },
    )

pub build-requires-clause-stubs : goal.build-requires-clause-stubs
build-requires-clause-stubs g c =
    subst (λ (a : AreaTreesValue). AreStubLinksOf (lsas_of (Area c.args.area) (lists_of c.args.database.now)) a.stubs)
    (sym c.self.view_is) c.requires.area.stubs

pub returns : goal.returns
returns g c =
    let found : IsTreeIn c.self.inside.graph c.args.router c.in-Some.kept.now =
    tree_found c.self.inside.graph c.self.inside.trees.entries c.args.router c.in-Some.kept.now c.self.invariant (sym c.in-Some.ensures.value) in
    let here : IsTreeIn c.self.inside.graph c.args.router (record { tree = c.kept.inside.tree; hops = c.kept.inside.hops }) =
    subst (λ (t : RouterTreeValue). IsTreeIn c.self.inside.graph c.args.router t) (sym c.kept.view_is) found in
    if_given (area_result c.args.area (lsas_of (Area c.args.area) (lists_of c.args.database.now))) _ c.build.result c.build.ensures c.args.router
    (record {
      of_area = subst (λ (a : AreaTreesValue). IsGraphOf (lsas_of (Area c.args.area) (lists_of c.args.database.now)) a.graph)
          (sym c.self.view_is) c.requires.area.graph;
      of_graph = here.tree;
      of_tree = here.hops;
    })
