use Rattle.std.proofs.Common.{◌∙◌, ap, ◌++◌, []}
use Rattle.std.specs.List.{cons_option}
use Rattle.area_graph.specs.steps.Naming.{linked}
use Rattle.area_graph.proofs.NamedRows.{more_of}
use Rattle.area_graph.proofs.naming.add_linked.Goals as goal

pub loop-link-preserved : goal.loop-link-preserved
loop-link-preserved g c =
    more_of (linked c.args.vertices.now.keys) c.loop-link.yielded c.in-Some.link c.args.row.now.items c.loop-link.row.items c.add_any.new.row.items
    c.loop-link.invariant (c.in_ok-add_any.ensures ∙ ap (λ o. c.loop-link.row.items ++ cons_option o []) c.linked.ensures)
