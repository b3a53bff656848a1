-- What is found of microloops, as the code has it: the loops, if the edits that a line names are done.
use Rattle.std.specs.Prelude.{List, Option, None, Some, codes}
use Rattle.study_text.specs.Shown.{Called}
use Rattle.loop_report.specs.Loops.{LoopValue}
use Rattle.study_answers.specs.Known.{too_few_done}
use Rattle.study_expectations.specs.LoopVerdicts.{loops_found}
use Rattle.study_expectations.specs.Verdicts.{VerdictValue, unknown}

abbrev pub no_microloops_by : Called → Option (List LoopValue) → VerdictValue
no_microloops_by called None = unknown too_few_done
no_microloops_by called (Some loops) = loops_found called (codes "microloops") loops
