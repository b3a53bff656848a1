use Rattle.std.proofs.Common.{◌≡◌, ◌<◌, ap, refl, false, get_or, length, Err, arith, rules}
use Rattle.std.proofs.lemmas.List.Elements.{All-set}
use Rattle.host_io.specs.Watched.{has_failed}
use Rattle.capture_report.specs.Runs.{known}
use Rattle.capture_report.specs.steps.Inputs.{IsReadEnd}
use Rattle.capture_report.proofs.Inputs.{IfErr-same, read_end, rest_more, parsed_more, unfailed_by_err, unfailed_by_ok}
use Rattle.capture_report.proofs.input.read_files.Goals as goal

pub returns-in_err-read_input-clause-fault : goal.returns-in_err-read_input-clause-fault
returns-in_err-read_input-clause-fault g c =
    let same : c.from_residual.result ≡ Err c.in_err-read_input.field-0.0 = search rules in
    let inside : c.loop-file.file-index < length c.args.files.now = omega (arith, c.loop-file-test.true, c.loop-file.auto.files) in
    let xs = c.loop-file.files in
    let i = c.loop-file.file-index in
    IfErr-same c.from_residual.result c.in_err-read_input.field-0.0 (IsReadEnd g.row.A.Denot (known g.R.Read.remaining c.args.files.now)) same
    (read_end g.R.Read.remaining xs c.args.files.now i c.len-index.result (get_or xs i c.file-item.result) c.loop-file.parsed.items
    c.in_err-read_input.field-0.0 inside c.loop-file.invariant.rest (ap (λ d. get_or xs i d) c.file-item.is) c.loop-file.invariant.parsed
    (search rules) c.in_err-read_input.ensures.fault)

pub returns-in_err-read_input-clause-sound : goal.returns-in_err-read_input-clause-sound
returns-in_err-read_input-clause-sound g c = λ other.
    let same : c.from_residual.result ≡ Err c.in_err-read_input.field-0.0 = search rules in
    All-set (λ file. has_failed file ≡ false) c.loop-file.files c.loop-file.file-index c.read_input.new.file
    (unfailed_by_err _ c.from_residual.result _ c.in_err-read_input.field-0.0 c.len-index.result same refl other c.in_err-read_input.ensures.failed.1)
    c.loop-file.invariant.sound

pub returns-in_err-push-clause-sound : goal.returns-in_err-push-clause-sound
returns-in_err-push-clause-sound g c = λ other.
    All-set (λ file. has_failed file ≡ false) c.loop-file.files c.loop-file.file-index c.read_input.new.file
    (unfailed_by_ok _ _ _ c.in_ok-read_input.ensures.failed.1) c.loop-file.invariant.sound

pub loop-file-preserved : goal.loop-file-preserved
loop-file-preserved g c =
    let inside : c.loop-file.file-index < length c.args.files.now = omega (arith, c.loop-file-test.true, c.loop-file.auto.files) in
    let xs = c.loop-file.files in
    let i = c.loop-file.file-index in
    record {
      parsed = parsed_more g.R.Read.remaining xs c.args.files.now i (get_or xs i c.file-item.result) c.loop-file.parsed.items
          c.push.new.self.items c.in_ok-read_input.field-0 inside c.loop-file.invariant.rest (ap (λ d. get_or xs i d) c.file-item.is)
          c.loop-file.invariant.parsed c.in_ok-read_input.ensures.parsed c.in_ok-push.ensures.items;
      rest = rest_more xs c.args.files.now i c.read_input.new.file c.loop-file.invariant.rest;
      sound = All-set (λ file. has_failed file ≡ false) xs i c.read_input.new.file (unfailed_by_ok _ _ _ c.in_ok-read_input.ensures.failed.1)
          c.loop-file.invariant.sound;
    }
