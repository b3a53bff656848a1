use Rattle.std.proofs.Common.{◌≡◌, None, [], List, length, sym, ap, subst, ◌∙◌}
use Rattle.std.proofs.lemmas.Result.{err_from_is_err_and}
use Rattle.lsa_codec.specs.declared.address.RouterId.{RouterId}
use Rattle.lsdb.specs.Lists.{AreaHead}
use Rattle.lsdb.specs.Slots.{lists_of}
use Rattle.area_routes.specs.Attached.{attached_areas}
use Rattle.routing_table.specs.AreasTrees.{KeptTreesValue, AreOfDatabase, trees_in}
use Rattle.routing_table.specs.Counting.{counted_by, CountsAtMost}
use Rattle.routing_table.specs.KeptTrees.{areas_without_tree}
use Rattle.routing_table.proofs.Tabled.{no_memory, on_ok}
use Rattle.routing_table.proofs.TreeCounts.{all_lack}
use Rattle.routing_table.proofs.table.table_of.Goals as goal

pub results_of-requires : goal.results_of-requires
results_of-requires g c =
    subst (λ (kept : KeptTreesValue). AreOfDatabase (lists_of c.args.database.now) kept) (sym c.new-trees.ensures)
    (record { areas = λ area. tt; spare = tt })

pub returns-in_err-results-clause-fault : goal.returns-in_err-results-clause-fault
returns-in_err-results-clause-fault g c =
    let gave = err_from_is_err_and c.from_residual.result c.from_residual.ensures.1 in
    rw (gave.1, gave.2) (no_memory (lists_of c.args.database.now) c.args.router c.in_err-results.ensures.memory)

-- all areas lacked their trees
lacked : (kept : KeptTreesValue) → kept ≡ record { areas = []; spare = None } → (router : RouterId) (areas : List AreaHead)
    → areas_without_tree (trees_in kept) router areas ≡ areas
lacked kept is router areas = ap (λ (k : KeptTreesValue). areas_without_tree (trees_in k) router areas) is ∙ all_lack router areas

pub returns-in_err-results-clause-at_most : goal.returns-in_err-results-clause-at_most
returns-in_err-results-clause-at_most g c =
    let areas = attached_areas (lists_of c.args.database.now) c.args.router in
    subst (λ (l : List AreaHead). CountsAtMost (length l) c.args.meter.now c.results_of.new.meter)
    (lacked c.new-trees.result c.new-trees.ensures c.args.router areas) c.results_of.ensures.at_most

pub returns-clause-meter : goal.returns-clause-meter
returns-clause-meter g c =
    let areas = attached_areas (lists_of c.args.database.now) c.args.router in
    on_ok c.table_from.result
    (c.in_ok-results.ensures.meter
    ∙ ap (λ (l : List AreaHead). counted_by (length l) c.args.meter.now) (lacked c.new-trees.result c.new-trees.ensures c.args.router areas))

pub returns-clause-at_most : goal.returns-clause-at_most
returns-clause-at_most g c =
    let areas = attached_areas (lists_of c.args.database.now) c.args.router in
    subst (λ (l : List AreaHead). CountsAtMost (length l) c.args.meter.now c.results_of.new.meter)
    (lacked c.new-trees.result c.new-trees.ensures c.args.router areas) c.results_of.ensures.at_most
