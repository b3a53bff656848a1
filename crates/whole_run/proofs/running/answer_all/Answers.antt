use Rattle.std.proofs.lemmas.Result.{IfErr-weaker, IfOk-weaker, on_ok_weaker}
use Rattle.host_io.specs.Watched.{inner_of}
use Rattle.host_io.specs.WholeText.{AppendsPrefix}
use Rattle.std.specs.Io.KnownBytes.{Appends}
use Rattle.whole_run.specs.Run.{text_of}
use Rattle.whole_run.specs.WholeRun.{IsSummaryOf}
use Rattle.whole_run.proofs.FailedReads.{read_by_either}
use Rattle.whole_run.proofs.KnownInputs.{not_refused, of_answers, of_end, of_texts, on_success}
use Rattle.whole_run.proofs.running.answer_all.Goals as goal

pub returns-clause-replies : goal.returns-clause-replies
returns-clause-replies g c = record {
  whole = on_ok_weaker _ (of_answers (λ answered. Appends (g.W.Write.contents (inner_of c.args.replies.now))
      (g.W.Write.contents (inner_of c.run_script.new.replies)) (text_of answered)) _ _ _ c.in_ok-branches.ensures.loads)
      c.run_script.ensures.replies;
  prefix = of_answers (λ answered. AppendsPrefix (g.W.Write.contents (inner_of c.args.replies.now))
      (g.W.Write.contents (inner_of c.run_script.new.replies)) (text_of answered)) _ _ _
      c.in_ok-branches.ensures.loads c.run_script.ensures.prefix;
}

pub returns-clause-left : goal.returns-clause-left
returns-clause-left g c =
    IfOk-weaker _ _ _ (λ done. of_texts c.args.wanted done.1 _ _ _ c.in_ok-branches.ensures.loads) c.run_script.ensures.left

pub returns-clause-summary : goal.returns-clause-summary
returns-clause-summary g c =
    IfOk-weaker _ _ _ (λ done. of_answers (λ answered. IsSummaryOf answered done.0) _ _ _ c.in_ok-branches.ensures.loads) c.run_script.ensures.summary

pub returns-clause-inputs : goal.returns-clause-inputs
returns-clause-inputs g c = record {
  accepted = on_success c.run_script.result c.in_ok-branches.ensures.accepted;
  within = c.run_script.ensures.within;
  faults = IfErr-weaker _ _ _ (of_end _ _ c.in_ok-branches.ensures.accepted) c.run_script.ensures.faults;
}

pub returns-clause-read : goal.returns-clause-read
returns-clause-read g c = read_by_either _ _ _ _ _ _ c.in_ok-branches.ensures.failed c.run_script.ensures.read

pub returns-clause-script_untouched : goal.returns-clause-script_untouched
returns-clause-script_untouched g c = not_refused _ (g.R.Read.remaining (inner_of c.args.dump.now)) c.in_ok-branches.ensures.accepted
