use Rattle.std.proofs.Common.{◌∙◌, rules}
use Rattle.whole_run.specs.Run.{final_dump, final_session}
use Rattle.whole_run.specs.Streams.{contents_of}
use Rattle.whole_run.proofs.KnownInputs.{wanted_dump, wanted_session, writes_given}
use Rattle.whole_run.proofs.running.run.Goals as goal

pub returns-clause-out : goal.returns-clause-out
returns-clause-out g c =
    writes_given g.D.Write.contents c.args.out.now (contents_of g.D.Write.contents c.write_ends.new.out) _ _ _ final_dump _
    (λ given. rw c.as_slice-end.ensures.value (wanted_dump (record { dump = c.is_some.result; session = c.is_some-2.result }) c.in_ok-summary.left _ _ c.in_ok-summary.ensures.left (c.is_some.ensures ∙ given))) c.in_ok-write_ends.ensures.out
    c.write_ends.ensures.out_prefix

pub returns-clause-save : goal.returns-clause-save
returns-clause-save g c =
    writes_given g.E.Write.contents c.args.save.now (contents_of g.E.Write.contents c.write_ends.new.save) _ _ _ final_session _
    (λ given. rw c.as_slice-session.ensures.value (wanted_session (record { dump = c.is_some.result; session = c.is_some-2.result }) c.in_ok-summary.left _ _ c.in_ok-summary.ensures.left (c.is_some-2.ensures ∙ given))) c.in_ok-write_ends.ensures.save
    c.write_ends.ensures.save_prefix

pub returns-in_err-write_ends-clause-out : goal.returns-in_err-write_ends-clause-out
returns-in_err-write_ends-clause-out g c =
    writes_given g.D.Write.contents c.args.out.now (contents_of g.D.Write.contents c.write_ends.new.out) _ _ _ final_dump _
    (λ given. rw c.as_slice-end.ensures.value (wanted_dump (record { dump = c.is_some.result; session = c.is_some-2.result }) c.in_ok-summary.left _ _ c.in_ok-summary.ensures.left (c.is_some.ensures ∙ given))) (search rules) c.write_ends.ensures.out_prefix

pub returns-in_err-write_ends-clause-save : goal.returns-in_err-write_ends-clause-save
returns-in_err-write_ends-clause-save g c =
    writes_given g.E.Write.contents c.args.save.now (contents_of g.E.Write.contents c.write_ends.new.save) _ _ _ final_session _
    (λ given. rw c.as_slice-session.ensures.value (wanted_session (record { dump = c.is_some.result; session = c.is_some-2.result }) c.in_ok-summary.left _ _ c.in_ok-summary.ensures.left (c.is_some-2.ensures ∙ given))) (search rules)
    c.write_ends.ensures.save_prefix
