use Rattle.std.proofs.Common.{◌∙◌, sym, ap, arith, length}
use Rattle.lsdb.proofs.MergedLists.{first_alone}
use Rattle.lsdb.proofs.merged.MergedIterator.next.Goals as goal

pub returns-in_default-split_first-clause-steps : goal.returns-in_default-split_first-clause-steps
returns-in_default-split_first-clause-steps g c =
    sym c.self.view_is ∙ first_alone g.T.Ord.cmp c.self.inside.older.now c.in-Some.older.now c.self.inside.latest.now c.in-Some.first.now
    c.in-Some.ensures.cases.0 c.in_default-split_first.ensures.cases

pub returns-in_default-split_first-clause-goes : goal.returns-in_default-split_first-clause-goes
returns-in_default-split_first-clause-goes g c = record {
  on = λ _. (tt, tt, omega (arith, ap length (returns-in_default-split_first-clause-steps g c)));
  keeps = tt;
  rests = λ _. tt;
}
