use Rattle.std.proofs.Common.{◌≡◌, sym, ◌∙◌}
use Rattle.std.proofs.lemmas.List.{map_push}
use Rattle.std.proofs.lemmas.Result.{err_from_is_err_and}
use Rattle.capture_files.specs.declared.fault.CaptureFault.TheVariants.{CapturedLength, OutOfMemory}
use Rattle.capture_files.specs.CaptureTexts.{packet_of}
use Rattle.capture_files.proofs.Records.{next_record, first_record, parsed_flaw}
use Rattle.capture_files.proofs.pcap.read_records.Goals as goal

pub returns-in_err-frame-clause-fault : goal.returns-in_err-frame-clause-fault
returns-in_err-frame-clause-fault g c =
    let p = err_from_is_err_and c.from_residual.result c.from_residual.ensures.1 in
    rw (p.1, p.2)
    (parsed_flaw c.args.file.now _ c.args.form _ c.records.offset c.requires.headed c.records.invariant.within
    c.records.invariant.records c.in_err-frame.ensures.fault)

pub records-preserved : goal.records-preserved
records-preserved g c = record {
  within = rw c.in-Some.is at c.in_ok-frame.ensures.within;
  records =
      rw (c.in_ok-push.ensures.items, map_push packet_of c.records.frames.items c.in-Some.frame)
      (next_record c.args.form c.args.file.now _ c.records.offset (packet_of c.in-Some.frame) c.records.invariant.records
      c.in_ok-frame.ensures.well_formed (sym (rw c.in-Some.is at c.in_ok-frame.ensures.packet)));
}

pub returns-in_err-frame-clause-memory : goal.returns-in_err-frame-clause-memory
returns-in_err-frame-clause-memory g c =
    let p = err_from_is_err_and c.from_residual.result c.from_residual.ensures.1 in
    rw (p.1, p.2) (λ e. let no : CapturedLength c.records.offset ≡ OutOfMemory = sym c.in_err-frame.ensures.fault.0 ∙ e in absurd cc)

pub returns-in_err-push-clause-memory : goal.returns-in_err-push-clause-memory
returns-in_err-push-clause-memory g c =
    let p = err_from_is_err_and c.from_residual-in_err-push.result c.from_residual-in_err-push.ensures.1 in
    rw (p.1, p.2)
    (λ e.
    first_record c.args.form c.args.file.now _ c.records.offset (packet_of c.in-Some.frame) c.requires.headed c.records.invariant.records
    c.in_ok-frame.ensures.well_formed (sym (rw c.in-Some.is at c.in_ok-frame.ensures.packet)))
