use Rattle.std.proofs.Common.{◌++◌, ◌∙◌, ap}
use Rattle.edit_history.specs.Session.{Session}
use Rattle.recalculate.proofs.study.Study.records.Goals as goal

pub returns-clause-edits : goal.returns-clause-edits
returns-clause-edits g c = c.records.ensures.edits c.self.inside.database ∙ ap (λ (s : Session). s.done ++ s.undone) c.self.view_is
