use Rattle.std.proofs.Common.{◌∙◌, ap, ◌++◌, []}
use Rattle.std.specs.List.{cons_option}
use Rattle.area_graph.specs.steps.Naming.{listed}
use Rattle.area_graph.proofs.NamedRows.{more_of}
use Rattle.area_graph.proofs.naming.add_listed.Goals as goal

pub loop-router-preserved : goal.loop-router-preserved
loop-router-preserved g c =
    more_of (listed c.args.vertices.now.keys) c.loop-router.yielded c.in-Some.router c.args.row.now.items c.loop-router.row.items c.add_any.new.row.items
    c.loop-router.invariant (c.in_ok-add_any.ensures ∙ ap (λ o. c.loop-router.row.items ++ cons_option o []) c.listed.ensures)
