use Rattle.std.proofs.Common.{subst, refl, inl, inr}
use Rattle.capture_slices.specs.Captured.{AreTextsOf, given_in}
use Rattle.lsa_instances.specs.declared.keeping.FlushedLsas.{FlushedLsas}
use Rattle.ospf_plan_c.proofs.CaptureRooms.{texts_in_rooms, texts_lack_room}
use Rattle.ospf_plan_c.proofs.capturing.ospf_capture_run.Goals as goal
use Rattle.ospf_plan_c.specs.Captures.{flushed_if}

pub returns-then-copy_texts-clause-ended : goal.returns-then-copy_texts-clause-ended
returns-then-copy_texts-clause-ended c =
    let given = given_in c.args.files.now c.args.lists.now in
    inl (texts_in_rooms (flushed_if c.args.manner.now.keep_flushed) given c.in-Ok.texts
    (subst (λ (flushed : FlushedLsas). AreTextsOf flushed given c.in-Ok.texts) c.flushed_if.ensures c.in-Ok.ensures.texts) c.report_of.result
    c.report_of.ensures c.as_bytes-lines.result.now c.as_bytes-warned.result.now c.deref.result.now c.as_bytes-lines.ensures.value
    c.as_bytes-warned.ensures.value c.deref.ensures.value c.args.output.now c.args.warnings.now c.args.dump.now c.copy_texts.new.first_room
    c.copy_texts.new.second_room c.copy_texts.new.third_room c.verdict_of.result (c.if-copy_texts.ensures.first refl)
    (c.if-copy_texts.ensures.second refl)
    (c.if-copy_texts.ensures.third refl) c.verdict_of.ensures)

pub returns-in-Ok-clause-ended : goal.returns-in-Ok-clause-ended
returns-in-Ok-clause-ended c =
    let given = given_in c.args.files.now c.args.lists.now in
    inr (inl (texts_lack_room (flushed_if c.args.manner.now.keep_flushed) given c.in-Ok.texts
    (subst (λ (flushed : FlushedLsas). AreTextsOf flushed given c.in-Ok.texts) c.flushed_if.ensures c.in-Ok.ensures.texts) c.report_of.result
    c.report_of.ensures c.as_bytes-lines.result.now c.as_bytes-warned.result.now c.deref.result.now c.as_bytes-lines.ensures.value
    c.as_bytes-warned.ensures.value c.deref.ensures.value c.args.output.now c.args.warnings.now c.args.dump.now 6
    (c.if-copy_texts.ensures.short refl) refl))
