-- What may loop while routers change over: from the loops to the document.
use Rattle.std.proofs.Common.{ℕ, List, Option, None, Some, subst}
use Rattle.lsdb.specs.Lists.{Lists}
use Rattle.loop_report.specs.Loops.{LoopValue}
use Rattle.study_answers.specs.Microloops.{AreMicroloops}
use Rattle.document_answers.specs.Documented.{DocumentedValue}
use Rattle.document_answers.specs.LoopDocuments.{IsMicroloopsBy, IsMicroloopsDocument}

pub answered : (db : Lists) (count : ℕ) (before : Option Lists) (loops : Option (List LoopValue)) (d : DocumentedValue)
    → AreMicroloops db before loops → IsMicroloopsBy count loops d → IsMicroloopsDocument db count before d
unfolding IsMicroloopsDocument
answered db count None loops d are is = subst (λ (found : Option (List LoopValue)). IsMicroloopsBy count found d) are is
answered db count (Some before) None d are is = absurd are
answered db count (Some before) (Some loops) d are is = (loops, are, is)
