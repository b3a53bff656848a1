use Rattle.std.proofs.Common.{false, get_or, ap, sym, ◌∙◌}
use Rattle.external_routes.proofs.Longest.{unmarked_none}
use Rattle.external_routes.proofs.forward.covering.Goals as goal

pub returns-then-not-marks-from : goal.returns-then-not-marks-from
returns-then-not-marks-from g c =
    unmarked_none c.args.addr c.args.routes.now c.args.marks.now c.requires.marked c.args.len
    (ap (λ n. get_or c.args.marks.now n false) (sym c.from.ensures) ∙ c.if-not-marks-from.true)
