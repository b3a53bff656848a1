use Rattle.std.proofs.Common.{◌≡◌, ◌∙◌, Err, ap, rules, sym}
use Rattle.std.proofs.lemmas.Result.{IfErr-weaker}
use Rattle.host_io.specs.Watched.{inner_of}
use Rattle.whole_study.proofs.ReadEnds.{both_false, neither}
use Rattle.whole_study.proofs.TypedEnds.{asking_from_writing, broken_converses, broken_long, fault_of, no_read, not_long, only_second, typed_converses, typed_ended, typed_fits, typed_prompts, unfailed}
use Rattle.whole_study.proofs.dialog.run_typed.Goals as goal

pub returns-in_err-carry_out_typed-clause-prefix : goal.returns-in_err-carry_out_typed-clause-prefix
returns-in_err-carry_out_typed-clause-prefix g c = (
  c.in_err-carry_out_typed.ensures.broken.text,
  (
    broken_converses _ _ _ _ c.in_err-carry_out_typed.ensures.broken,
    λ failed. c.in_err-carry_out_typed.ensures.broken.awaited (fault_of _ _ _ (c.in_err-carry_out_typed.ensures.read.1 failed)),
  ),
)

pub returns-in_err-carry_out_typed-clause-too_large : goal.returns-in_err-carry_out_typed-clause-too_large
returns-in_err-carry_out_typed-clause-too_large g c = λ text typed is.
    let same : c.from_residual.result ≡ Err c.in_err-carry_out_typed.field-0.0 = search rules in
    broken_long _ _ _ c.in_err-carry_out_typed.field-0.0 c.in_err-carry_out_typed.ensures.broken text typed (fault_of _ _ _ (sym same ∙ is))

pub returns-clause-ended : goal.returns-clause-ended
returns-clause-ended g c =
    typed_ended c.args.manner _ _ _ _ _ _ c.in_ok-carry_out_typed.ensures.done c.new-summary.ensures _ _
    (ap (λ w. g.E.Write.contents (inner_of w)) c.finish.ensures.errors) c.finish.result (rw c.format-format.ensures at c.finish.ensures.replies)
    c.finish.ensures.ended

pub returns-clause-prompts : goal.returns-clause-prompts
returns-clause-prompts g c =
    typed_prompts c.args.manner _ _ _ _ _ _ c.in_ok-carry_out_typed.ensures.done c.new-summary.ensures (g.W.Write.contents (inner_of c.finish.new.output.replies)) _
    (ap (λ w. g.E.Write.contents (inner_of w)) c.finish.ensures.errors) c.finish.result

pub returns-clause-prefix : goal.returns-clause-prefix
returns-clause-prefix g c = (
  c.in_ok-carry_out_typed.ensures.done.text,
  (
    typed_converses c.args.manner _ _ _ _ _ _ c.in_ok-carry_out_typed.ensures.done c.new-summary.ensures _ _
        (ap (λ w. g.E.Write.contents (inner_of w)) c.finish.ensures.errors) c.finish.result (rw c.format-format.ensures at c.finish.ensures.part),
    λ failed. absurd (unfailed _ (both_false _ _ c.in_ok-carry_out_typed.ensures.open).0 failed),
  ),
)

pub returns-clause-within : goal.returns-clause-within
returns-clause-within g c =
    typed_fits c.args.manner _ _ _ _ _ _ c.in_ok-carry_out_typed.ensures.done c.new-summary.ensures (g.W.Write.contents (inner_of c.finish.new.output.replies)) _
    (ap (λ w. g.E.Write.contents (inner_of w)) c.finish.ensures.errors) c.finish.result

pub returns-clause-too_large : goal.returns-clause-too_large
returns-clause-too_large g c = λ text typed is. absurd (not_long c.finish.result c.finish.ensures.fault is)

pub returns-clause-read : goal.returns-clause-read
returns-clause-read g c =
    neither _ _ (no_read c.finish.result c.finish.ensures.fault) (both_false _ _ c.in_ok-carry_out_typed.ensures.open).0

pub returns-clause-write : goal.returns-clause-write
returns-clause-write g c = only_second _ _ _ (both_false _ _ c.in_ok-carry_out_typed.ensures.open).1 c.finish.ensures.write

pub returns-clause-fault : goal.returns-clause-fault
returns-clause-fault g c = IfErr-weaker c.finish.result _ _ (λ fault may. asking_from_writing fault may) c.finish.ensures.fault
