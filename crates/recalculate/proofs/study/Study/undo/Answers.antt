use Rattle.recalculate.proofs.Studied.{undo_studied}
use Rattle.recalculate.proofs.study.Study.undo.Goals as goal

pub invariant_of-self : goal.invariant_of-self
invariant_of-self g c =
    undo_studied c.self.inside.database c.undo.new.database c.self.inside.history.lists c.undo.new.self.lists c.self.inside.loaded
    c.undo.ensures.linked c.undo.result c.args.count c.undo.ensures.session c.undo.ensures.err c.self.invariant
