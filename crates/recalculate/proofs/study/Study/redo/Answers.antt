use Rattle.recalculate.proofs.Studied.{redo_studied}
use Rattle.recalculate.proofs.study.Study.redo.Goals as goal

pub invariant_of-self : goal.invariant_of-self
invariant_of-self g c =
    redo_studied c.self.inside.database c.redo.new.database c.self.inside.history.lists c.redo.new.self.lists c.self.inside.loaded
    c.redo.ensures.linked c.redo.result c.args.count c.redo.ensures.session c.redo.ensures.err c.self.invariant
