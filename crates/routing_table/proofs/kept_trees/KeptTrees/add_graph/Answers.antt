use Rattle.std.proofs.Common.{◌≡◌, ◌∙◌, [], None, sym, ap, subst, true≢false}
use Rattle.lsdb.specs.declared.section.Section.TheVariants.{Area}
use Rattle.lsdb.specs.Lists.{lsas_of}
use Rattle.lsdb.specs.Slots.{lists_of}
use Rattle.routing_table.specs.AreaTrees.{AreaTreesValue, IsAreaOf}
use Rattle.routing_table.specs.AreasTrees.{AreasTrees, KeptTreesValue, AreOfDatabase, at_area, trees_in, trees_of}
use Rattle.routing_table.proofs.MapLemmas.{if_found, none_found}
use Rattle.routing_table.proofs.KeptMaps.{area_here, graphs_stay, no_tree_more}
use Rattle.routing_table.proofs.kept_trees.KeptTrees.add_graph.Goals as goal

-- ---- where the database lacks the area

pub returns-in_default-clause-trees : goal.returns-in_default-clause-trees
returns-in_default-clause-trees g c = λ other root.
    ap (λ (areas : AreasTrees). trees_of areas other root) c.in_ok-trees.ensures.areas

pub returns-in_default-clause-there : goal.returns-in_default-clause-there
returns-in_default-clause-there g c = λ router attached.
    absurd (true≢false (sym attached ∙ c.in_ok-trees.ensures.lacking c.in_default.is router))

-- ---- where it has it

pub returns-clause-graphs : goal.returns-clause-graphs
returns-clause-graphs g c =
    let db = lists_of c.args.database.now in
    let was = subst (λ (kept : KeptTreesValue). AreOfDatabase db kept) (sym c.self-2.view_is) c.in_ok-trees.ensures.graphs in
    record {
      areas = graphs_stay c.self-2.inside.areas.entries c.insert.new.self.entries c.args.area _ c.in_ok-insert.ensures.updates.0
          db (if_found (λ (t : AreaTreesValue). IsAreaOf (lsas_of (Area c.args.area) db) t) _ c.in-Some.trees c.in-Some.is c.in_ok-trees.ensures.area) was.areas;
      spare = was.spare;
    }

pub returns-clause-trees : goal.returns-clause-trees
returns-clause-trees g c = λ other root.
    let areas_of : KeptTreesValue → AreasTrees = λ kept. kept.areas in
    let same : c.self-2.inside.areas.entries ≡ c.self.inside.areas.entries =
    ap areas_of c.self-2.view_is ∙ c.in_ok-trees.ensures.areas ∙ sym (ap areas_of c.self.view_is) in
    let absent : at_area c.self-2.inside.areas.entries c.args.area ≡ None =
    ap (λ (areas : AreasTrees). at_area areas c.args.area) same
    ∙ none_found _ (sym c.contains_key.ensures ∙ c.if-contains_key.false) in
    no_tree_more c.self-2.inside.areas.entries c.insert.new.self.entries c.args.area _ c.in_ok-insert.ensures.updates.0
    absent (if_found (λ (t : AreaTreesValue). t.trees ≡ []) _ c.in-Some.trees c.in-Some.is c.in_ok-trees.ensures.trees) other root
    ∙ ap (λ (areas : AreasTrees). trees_of areas other root) (ap areas_of c.self-2.view_is ∙ c.in_ok-trees.ensures.areas)

pub returns-clause-there : goal.returns-clause-there
returns-clause-there g c = λ router attached.
    area_here c.self-2.inside.areas.entries c.insert.new.self.entries c.args.area _ c.in_ok-insert.ensures.updates.0
