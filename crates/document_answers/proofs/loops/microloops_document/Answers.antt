use Rattle.std.proofs.Common.{ℕ, IfOk, subst}
use Rattle.std.specs.Prelude.{option_map}
use Rattle.std.proofs.lemmas.Result.{IfOk-weaker}
use Rattle.edit_history.specs.Session.{state}
use Rattle.branches.specs.Branches.{before_last, sessions_of}
use Rattle.document_answers.specs.Documented.{documented}
use Rattle.document_answers.specs.LoopDocuments.{IsMicroloopsBy, IsMicroloopsDocument}
use Rattle.document_answers.proofs.Microloops.{answered}
use Rattle.document_answers.proofs.loops.microloops_document.Goals as goal

pub returns-clause-document : goal.returns-clause-document
returns-clause-document g c =
    let s = sessions_of c.args.branches.now c.args.branch in
    let count = c.unwrap_or-count.result in
    let loops = option_map (λ found. found.items) c.in_ok-loops.loops in
    subst (λ (n : ℕ). IfOk c.microloops_by.result (λ given. IsMicroloopsDocument (state s) n (before_last n s) (documented given)))
    c.unwrap_or-count.ensures
    (IfOk-weaker c.microloops_by.result (λ given. IsMicroloopsBy count loops (documented given))
    (λ given. IsMicroloopsDocument (state s) count (before_last count s) (documented given))
    (λ given. answered (state s) count (before_last count s) loops (documented given) c.in_ok-loops.ensures.loops)
    c.microloops_by.ensures)
