use Rattle.std.proofs.Common.{◌∙◌, sym, ap}
use Rattle.routing_table.specs.AreasTrees.{KeptTreesValue, trees_at, trees_in}
use Rattle.routing_table.proofs.MapLemmas.{some_found}
use Rattle.routing_table.proofs.KeptMaps.{area_at, only_there, other_areas, same_graphs, still_within, vertex_found}
use Rattle.routing_table.proofs.kept_trees.KeptTrees.grow_in.Goals as goal

pub grow-requires : goal.grow-requires
grow-requires g c =
    vertex_found c.args.self.now c.args.area c.args.router c.in-Some.trees.now
    (ap (λ (areas : KeptTreesValue). trees_at areas c.args.area) (sym c.self.view_is) ∙ sym c.in-Some.ensures.value) c.requires

pub returns-clause-graphs : goal.returns-clause-graphs
returns-clause-graphs g c = λ other.
    same_graphs c.self.inside.areas.entries _ c.args.area c.grow.new.self
    ((c.get_mut.follows.holds c.grow.new.self).3 (some_found (sym c.in-Some.ensures.value))).0
    c.in-Some.trees.now (sym c.in-Some.ensures.value) c.grow.ensures.graph c.grow.ensures.stubs other
    ∙ ap (λ (areas : KeptTreesValue). area_at (trees_at areas other)) c.self.view_is

pub returns-clause-keeps : goal.returns-clause-keeps
returns-clause-keeps g c = λ other root had.
    still_within c.self.inside.areas.entries _ c.args.area c.grow.new.self
    ((c.get_mut.follows.holds c.grow.new.self).3 (some_found (sym c.in-Some.ensures.value))).0
    c.in-Some.trees.now (sym c.in-Some.ensures.value) c.grow.ensures.keeps other root
    (ap (λ (areas : KeptTreesValue). trees_in areas other root) c.self.view_is ∙ had)

pub returns-clause-others : goal.returns-clause-others
returns-clause-others g c = λ other apart root.
    other_areas c.self.inside.areas.entries _ c.args.area c.grow.new.self
    ((c.get_mut.follows.holds c.grow.new.self).3 (some_found (sym c.in-Some.ensures.value))).0 other apart root
    ∙ ap (λ (areas : KeptTreesValue). trees_in areas other root) c.self.view_is

pub returns-clause-no_more : goal.returns-clause-no_more
returns-clause-no_more g c = λ other root has lacked.
    only_there c.self.inside.areas.entries _ c.args.area c.grow.new.self
    ((c.get_mut.follows.holds c.grow.new.self).3 (some_found (sym c.in-Some.ensures.value))).0
    c.in-Some.trees.now (sym c.in-Some.ensures.value) c.args.router c.grow.ensures.no_more other root has
    (ap (λ (areas : KeptTreesValue). trees_in areas other root) c.self.view_is ∙ lacked)
