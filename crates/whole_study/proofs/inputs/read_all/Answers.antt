use Rattle.std.proofs.Common.{◌≡◌, Err, arith, inl, rules}
use Rattle.std.proofs.lemmas.Slice.Zip.{AllZip-long}
use Rattle.host_io.specs.Watched.{has_failed}
use Rattle.whole_run.specs.Streams.{has_any_failed}
use Rattle.whole_study.specs.declared.fault.RunFault.TheVariants.{Read}
use Rattle.whole_study.proofs.ReadEnds.{both_false, failed_by_err, large_is_no_read, neither, only_baseline, only_dump, only_names, or_false, unfailed_by_ok}
use Rattle.whole_study.proofs.ReadInputs.{all_known, any_none, given_same, read_known, texts_known}
use Rattle.whole_study.proofs.RunEnds.{names_few, not_much}
use Rattle.whole_study.proofs.inputs.read_all.Goals as goal

pub returns-then-studies-gt-MOST-clause-end : goal.returns-then-studies-gt-MOST-clause-end
returns-then-studies-gt-MOST-clause-end g c = λ given have. inl (omega (arith, c.if-studies-gt-MOST.true, AllZip-long _ _ _ have.studies))

pub returns-then-studies-gt-MOST-clause-failed : goal.returns-then-studies-gt-MOST-clause-failed
returns-then-studies-gt-MOST-clause-failed g c =
    neither _ _ (large_is_no_read _)
    (or_false _ _ c.requires.files_open (any_none (λ file. has_failed file.reader) c.args.studies.now c.requires.studies_open))

pub returns-in_err-dump-clause-failed : goal.returns-in_err-dump-clause-failed
returns-in_err-dump-clause-failed g c =
    let same : c.from_residual.result ≡ Err c.in_err-dump.field-0.0 = search rules in
    failed_by_err _ _ c.from_residual.result c.in_err-dump.field-0.0 Read _ (has_failed c.read_input.new.reader) same
    (only_dump (has_failed c.read_input.new.reader) (has_any_failed c.args.files.now.baseline) (has_any_failed c.args.files.now.names) _
    (both_false _ _ c.requires.files_open).1 (any_none (λ file. has_failed file.reader) c.args.studies.now c.requires.studies_open))
    c.in_err-dump.ensures.failed

pub returns-in_err-baseline-clause-failed : goal.returns-in_err-baseline-clause-failed
returns-in_err-baseline-clause-failed g c =
    let same : c.from_residual-in_err-baseline.result ≡ Err c.in_err-baseline.field-0.0 = search rules in
    failed_by_err _ _ c.from_residual-in_err-baseline.result c.in_err-baseline.field-0.0 Read _ (has_any_failed c.read_given.new.reader) same
    (only_baseline (has_failed c.read_input.new.reader) (has_any_failed c.read_given.new.reader) (has_any_failed c.args.files.now.names) _
    (unfailed_by_ok _ c.in_ok-dump.dump Read _ c.in_ok-dump.ensures.failed)
    (both_false _ _ (both_false _ _ c.requires.files_open).1).1
    (any_none (λ file. has_failed file.reader) c.args.studies.now c.requires.studies_open)) c.in_err-baseline.ensures.failed

pub returns-in_err-names-clause-failed : goal.returns-in_err-names-clause-failed
returns-in_err-names-clause-failed g c =
    let same : c.from_residual-in_err-names.result ≡ Err c.in_err-names.field-0.0 = search rules in
    failed_by_err _ _ c.from_residual-in_err-names.result c.in_err-names.field-0.0 Read _
    (has_any_failed c.read_given-2.new.reader) same
    (only_names (has_failed c.read_input.new.reader) (has_any_failed c.read_given.new.reader) (has_any_failed c.read_given-2.new.reader) _
    (unfailed_by_ok _ c.in_ok-dump.dump Read _ c.in_ok-dump.ensures.failed)
    (unfailed_by_ok _ c.in_ok-baseline.baseline Read _ c.in_ok-baseline.ensures.failed)
    (any_none (λ file. has_failed file.reader) c.args.studies.now c.requires.studies_open)) c.in_err-names.ensures.failed

pub returns-clause-whole : goal.returns-clause-whole
returns-clause-whole g c = λ given have.
    given_same _ given (all_known _ _ _ have.dump c.in_ok-dump.ensures.whole)
    (read_known _ _ _ _ have.baseline c.in_ok-baseline.ensures.whole) (read_known _ _ _ _ have.names c.in_ok-names.ensures.whole)
    (texts_known _ _ _ _ c.in_ok-studies.ensures.whole have.studies)

pub returns-clause-few : goal.returns-clause-few
returns-clause-few g c = omega (arith, c.if-studies-gt-MOST.false, AllZip-long _ _ _ c.in_ok-studies.ensures.whole)

pub returns-clause-much : goal.returns-clause-much
returns-clause-much g c =
    not_much
    (record {
      dump = c.in_ok-dump.dump;
      baseline = c.in_ok-baseline.baseline;
      names = c.in_ok-names.names;
      studies = c.in_ok-studies.studies;
    })
    (omega (arith, c.if-studies-gt-MOST.false, AllZip-long _ _ _ c.in_ok-studies.ensures.whole))
    (names_few _ c.in_ok-names.ensures.within) c.in_ok-studies.ensures.within
