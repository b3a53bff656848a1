use Rattle.std.proofs.Common.{◌∙◌, ap, map, []}
use Rattle.std.proofs.lemmas.List.{map_push}
use Rattle.area_graph.proofs.BackLinkSearch.{no_rows, one_more}
use Rattle.area_graph.proofs.back_links.targets_of_rows.Goals as goal

pub loop-of-preserved : goal.loop-of-preserved
loop-of-preserved g c =
    one_more c.args.naming.now c.loop-of.of (map (λ row. row.items) c.loop-of.targets.items) c.row.result.now c.in_ok-sorted_targets.field-0.items
    c.loop-of.invariant c.row.ensures c.in_ok-sorted_targets.ensures _
    (ap (map (λ row. row.items)) c.in_ok-push.ensures.items ∙ map_push (λ row. row.items) c.loop-of.targets.items c.in_ok-sorted_targets.field-0)
