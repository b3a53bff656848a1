use Rattle.std.proofs.Common.{◌≡◌, ◌∙◌, sym, subst, Err, inr, rules}
use Rattle.host_io.specs.Watched.{has_failed}
use Rattle.study_session.specs.Studies.{study_of}
use Rattle.whole_study.specs.Calls.{FitsInputs, MayEndRun}
use Rattle.whole_study.specs.Streams.{has_file_failed, has_study_failed}
use Rattle.whole_study.specs.Typed.{with_typed}
use Rattle.whole_study.specs.steps.Texts.{given_in}
use Rattle.whole_study.specs.declared.fault.RunFault.TheVariants.{Read}
use Rattle.whole_study.proofs.ReadEnds.{both_false, failed_by_err, or_first, unfailed_by_ok}
use Rattle.whole_study.proofs.TypedEnds.{begins_typed, end_typed, ended_typed, have_none, inputs_typed, none_failed, none_given, only_second, untouched_typed}
use Rattle.whole_study.proofs.dialog.converse.Goals as goal

pub returns-clause-ended : goal.returns-clause-ended
returns-clause-ended g c = λ given text have typed.
    ended_typed c.args.manner (given_in c.in_ok-texts.texts) given (study_of c.in_ok-session.session) (c.in_ok-texts.ensures.whole given (have_none _ _ _ _ given have))
    c.in_ok-session.ensures.begins c.args.manner text _ _ _ _ c.run_typed.result (c.run_typed.ensures.ended text typed)

pub returns-clause-prefix : goal.returns-clause-prefix
returns-clause-prefix g c = λ given have.
    inr (
      study_of c.in_ok-session.session,
      (
        begins_typed c.args.manner (given_in c.in_ok-texts.texts) given (study_of c.in_ok-session.session) (c.in_ok-texts.ensures.whole given (have_none _ _ _ _ given have))
            c.in_ok-session.ensures.begins,
        c.run_typed.ensures.prefix,
      ),
    )

pub returns-clause-inputs : goal.returns-clause-inputs
returns-clause-inputs g c = λ given text have typed.
    inputs_typed c.args.manner (given_in c.in_ok-texts.texts) given (study_of c.in_ok-session.session) (c.in_ok-texts.ensures.whole given (have_none _ _ _ _ given have))
    c.in_ok-session.ensures.begins text c.run_typed.result c.in_ok-texts.ensures.much (c.run_typed.ensures.within text typed)
    (c.run_typed.ensures.too_large text typed) c.run_typed.ensures.fault

pub returns-in_err-texts-clause-inputs : goal.returns-in_err-texts-clause-inputs
returns-in_err-texts-clause-inputs g c = λ given text have typed.
    let same : c.from_residual.result ≡ Err c.in_err-texts.field-0.0 = search rules in
    subst (λ r. FitsInputs (with_typed given text) r) (sym same)
    (record {
      accepted = tt;
      within = tt;
      faults = end_typed given text c.in_err-texts.field-0.0 (none_given _ _ _ given have) (c.in_err-texts.ensures.end given (have_none _ _ _ _ given have));
    })

pub returns-in_err-texts-clause-read : goal.returns-in_err-texts-clause-read
returns-in_err-texts-clause-read g c =
    let same : c.from_residual.result ≡ Err c.in_err-texts.field-0.0 = search rules in
    failed_by_err _ _ c.from_residual.result c.in_err-texts.field-0.0 Read _ _ same
    (or_first (has_file_failed c.read_all.new.files) (has_failed c.args.terminal.now.input) (both_false _ _ c.requires.terminal_open).0
    ∙ sym (or_first (has_file_failed c.read_all.new.files) (has_study_failed c.read_all.new.studies) (none_failed c.read_all.new.studies (search rules))))
    c.in_err-texts.ensures.failed

pub returns-in_err-session-clause-inputs : goal.returns-in_err-session-clause-inputs
returns-in_err-session-clause-inputs g c = λ given text have typed.
    let same : c.from_residual-in_err-session.result ≡ Err c.in_err-session.field-0.0 = search rules in
    subst (λ r. FitsInputs (with_typed given text) r) (sym same)
    (record {
      accepted = tt;
      within = tt;
      faults = end_typed given text c.in_err-session.field-0.0 (none_given _ _ _ given have)
          (subst (λ x. MayEndRun x c.in_err-session.field-0.0) (c.in_ok-texts.ensures.whole given (have_none _ _ _ _ given have)) c.in_err-session.ensures.end);
    })

pub returns-clause-read : goal.returns-clause-read
returns-clause-read g c =
    only_second _ (has_file_failed c.read_all.new.files) _
    (both_false (has_file_failed c.read_all.new.files) _ (unfailed_by_ok _ c.in_ok-texts.texts Read _ c.in_ok-texts.ensures.failed)).0
    c.run_typed.ensures.read

pub returns-clause-untouched : goal.returns-clause-untouched
returns-clause-untouched g c = untouched_typed c.run_typed.result _ c.run_typed.ensures.fault
