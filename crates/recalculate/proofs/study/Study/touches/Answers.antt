use Rattle.std.proofs.Common.{◌∙◌, ap}
use Rattle.edit_history.specs.Moving.{moved_touches}
use Rattle.edit_history.specs.Session.{Session}
use Rattle.recalculate.proofs.study.Study.touches.Goals as goal

pub returns : goal.returns
returns g c =
    c.touches.ensures c.self.inside.database c.self.invariant.links
    ∙ ap (λ (s : Session). moved_touches c.args.moved c.args.area s) c.self.view_is
