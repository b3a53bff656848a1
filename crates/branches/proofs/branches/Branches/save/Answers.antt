use Rattle.branches.proofs.branches.Branches.save.Goals as goal

pub invariant_of-self : goal.invariant_of-self
invariant_of-self g c = rw c.save.ensures.kept c.self.invariant
