-- What may loop while routers change over: from the loops to what is found of the condition.
use Rattle.std.proofs.Common.{◌≡◌, List, Option, None, Some, ap, ◌∙◌}
use Rattle.lsdb.specs.Lists.{Lists}
use Rattle.study_text.specs.Shown.{Called}
use Rattle.loop_report.specs.Loops.{LoopValue}
use Rattle.study_answers.specs.Microloops.{AreMicroloops}
use Rattle.study_expectations.specs.LoopVerdicts.{IsMicroloopsVerdict}
use Rattle.study_expectations.specs.Verdicts.{VerdictValue}
use Rattle.study_expectations.specs.steps.Microloops.{no_microloops_by}

module _ (called : Called) (db : Lists) where
  pub found : (before : Option Lists) (loops : Option (List LoopValue)) (verdict : VerdictValue)
      → AreMicroloops db before loops → verdict ≡ no_microloops_by called loops → IsMicroloopsVerdict called db before verdict
  unfolding IsMicroloopsVerdict
  found None loops verdict are is = is ∙ ap (no_microloops_by called) are
  found (Some before) None verdict are is = absurd are
  found (Some before) (Some loops) verdict are is = (loops, are, is)
