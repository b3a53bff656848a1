use Rattle.std.proofs.Common.{rules, arith}
use Rattle.whole_run.proofs.FirstLine.{lines_first, lines_only}
use Rattle.whole_run.proofs.lines.first_line.Goals as goal

pub returns-then-byte-eq10-clause-lines : goal.returns-then-byte-eq10-clause-lines
returns-then-byte-eq10-clause-lines c =
    lines_first c.args.text.now c.loop-i.i (search rules) c.loop-i.invariant c.if-byte-eq10.true

pub returns-clause-lines : goal.returns-clause-lines
returns-clause-lines c = lines_only c.args.text.now (λ k lt. c.loop-i.invariant k (omega arith))
