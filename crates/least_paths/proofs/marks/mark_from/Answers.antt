use Rattle.std.proofs.Common.{◌<◌, length, arith, refl, sym, ◌∙◌}
use Rattle.least_paths.proofs.Marked.{one_leads}
use Rattle.least_paths.proofs.marks.mark_from.Goals as goal

pub returns-then-some_leads_on : goal.returns-then-some_leads_on
returns-then-some_leads_on g c =
    let marks = c.args.marks.now in
    let within : c.args.from < length marks = omega (arith, c.requires.from, c.requires.sized) in
    one_leads c.args.graph.now c.args.tree.now.distances marks c.args.from c.in-Some.distance
    (sym c.in-Some.ensures.value) _ within refl
    (sym c.some_leads_on.ensures ∙ c.if-some_leads_on.true)
