use Rattle.std.proofs.Common.{◌≡◌, ◌<◌, ◌∙◌, ap, sym, subst, false, get_or, length, Err, arith, rules}
use Rattle.std.specs.Prelude.{All, IfErr}
use Rattle.std.proofs.lemmas.List.Elements.{All-push, All-set}
use Rattle.host_io.specs.Watched.{has_failed}
use Rattle.whole_study.specs.steps.Texts.{HasFewBytes, IsLongIn, IsReadEnd, Never}
use Rattle.whole_study.specs.declared.fault.RunFault.TheVariants.{OutOfMemory, Read}
use Rattle.whole_study.proofs.ReadEnds.{failed_by_err, long_for, memory_is_no_read, neither, ok_is_no_read, unfailed_by_ok}
use Rattle.whole_study.proofs.ReadInputs.{any_none, any_set, long_next, rest_more, texts_more}
use Rattle.whole_study.proofs.inputs.read_studies.Goals as goal

pub returns-in_err-read_study-clause-end : goal.returns-in_err-read_study-clause-end
returns-in_err-read_study-clause-end g c =
    let same : c.from_residual.result ≡ Err c.in_err-read_study.field-0.0 = search rules in
    let inside : c.loop-file.file-index < length c.args.files.now = omega (arith, c.loop-file-test.true, c.loop-file.auto.files) in
    let xs = c.loop-file.files in
    let i = c.loop-file.file-index in
    subst (λ r. IfErr r (IsReadEnd Never Never (IsLongIn g.S.Read.remaining c.args.files.now))) (sym same)
    (long_for _ _ c.in_err-read_study.field-0.0
    (long_next g.S.Read.remaining xs c.args.files.now i (get_or xs i c.file-item.result) inside c.loop-file.invariant.rest
    (ap (λ d. get_or xs i d) c.file-item.is)) c.in_err-read_study.ensures.end)

pub returns-in_err-read_study-clause-failed : goal.returns-in_err-read_study-clause-failed
returns-in_err-read_study-clause-failed g c =
    let same : c.from_residual.result ≡ Err c.in_err-read_study.field-0.0 = search rules in
    let inside : c.loop-file.file-index < length c.loop-file.files = omega (arith, c.loop-file-test.true, c.loop-file.auto.files) in
    failed_by_err _ _ c.from_residual.result c.in_err-read_study.field-0.0 Read _ (has_failed c.read_study.new.file.reader) same
    (any_set (λ file. has_failed file.reader) c.loop-file.files c.loop-file.file-index c.read_study.new.file c.loop-file.invariant.sound inside)
    c.in_err-read_study.ensures.failed

pub returns-in_err-push-clause-failed : goal.returns-in_err-push-clause-failed
returns-in_err-push-clause-failed g c =
    let same : c.from_residual-in_err-push.result ≡ Err OutOfMemory = search rules in
    let inside : c.loop-file.file-index < length c.loop-file.files = omega (arith, c.loop-file-test.true, c.loop-file.auto.files) in
    neither _ _ (memory_is_no_read _ c.from_residual-in_err-push.result same)
    (any_set (λ file. has_failed file.reader) c.loop-file.files c.loop-file.file-index c.read_study.new.file c.loop-file.invariant.sound inside
    ∙ unfailed_by_ok _ c.in_ok-read_study.field-0 Read (has_failed c.read_study.new.file.reader) c.in_ok-read_study.ensures.failed)

pub loop-file-preserved : goal.loop-file-preserved
loop-file-preserved g c =
    let inside : c.loop-file.file-index < length c.args.files.now = omega (arith, c.loop-file-test.true, c.loop-file.auto.files) in
    let xs = c.loop-file.files in
    let i = c.loop-file.file-index in
    record {
      whole = texts_more g.S.Read.remaining xs c.args.files.now i (get_or xs i c.file-item.result) c.loop-file.texts.items c.push.new.self.items
          c.in_ok-read_study.field-0 inside c.loop-file.invariant.rest (ap (λ d. get_or xs i d) c.file-item.is) c.loop-file.invariant.whole
          c.in_ok-read_study.ensures.whole c.in_ok-push.ensures.items;
      within = subst (λ texts. All HasFewBytes texts) (sym c.in_ok-push.ensures.items)
          (All-push HasFewBytes c.loop-file.texts.items c.in_ok-read_study.field-0 c.loop-file.invariant.within c.in_ok-read_study.ensures.within);
      rest = rest_more xs c.args.files.now i c.read_study.new.file c.loop-file.invariant.rest;
      sound = All-set (λ file. has_failed file.reader ≡ false) xs i c.read_study.new.file
          (unfailed_by_ok _ c.in_ok-read_study.field-0 Read (has_failed c.read_study.new.file.reader) c.in_ok-read_study.ensures.failed)
          c.loop-file.invariant.sound;
    }

pub returns-clause-failed : goal.returns-clause-failed
returns-clause-failed g c =
    neither _ _ (ok_is_no_read _ _) (any_none (λ file. has_failed file.reader) c.loop-file.files c.loop-file.invariant.sound)
