-- The answer on the loops of now, and on new blackholes.
use Rattle.std.specs.Prelude.{List}
use Rattle.loop_report.specs.Blackholes.{BlackholeValue}
use Rattle.loop_report.specs.Loops.{LoopValue}

pub record ReportValue : Type 0 where
  pub loops : List LoopValue
  pub blackholes : List BlackholeValue
