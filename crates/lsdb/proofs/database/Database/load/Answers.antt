use Rattle.std.proofs.Common.{◌≡◌, ◌∙◌, arith, ap, length, subst, sym, Err}
use Rattle.lsdb.specs.Lists.{Lists}
use Rattle.lsdb.specs.Slots.{Slots, lists_of}
use Rattle.lsdb.specs.steps.View.{slots_of}
use Rattle.lsdb.specs.Text.{text}
use Rattle.lsdb.specs.declared.fault.DumpFault.{DumpFault}
use Rattle.lsdb.specs.Loading.{loaded, front_loaded}
use Rattle.lsdb.proofs.FrontFaults.{leads_loaded, front_refuses, front_reported}
use Rattle.lsdb.proofs.DumpText.{loaded_takes}
use Rattle.lsdb.proofs.TextSize.{text_size}
use Rattle.lsdb.proofs.database.Database.load.Goals as goal

pub of_sections-requires-clause-sound : goal.of_sections-requires-clause-sound
of_sections-requires-clause-sound g c =
    (loaded_takes c.args.bytes.now (lists_of (slots_of c.in-Ok.sections.items)) (λ i. omega (arith, c.type_inv.bytes i)) c.in-Ok.ensures.sections).0

pub of_sections-requires-clause-byte_count : goal.of_sections-requires-clause-byte_count
of_sections-requires-clause-byte_count g c =
    let db = lists_of (slots_of c.in-Ok.sections.items) in
    let spelled : c.args.bytes.now ≡ text db = (loaded_takes c.args.bytes.now db (λ i. omega (arith, c.type_inv.bytes i)) c.in-Ok.ensures.sections).1 in
    ap length spelled ∙ text_size db

pub returns-in-Ok-clause-spelled : goal.returns-in-Ok-clause-spelled
returns-in-Ok-clause-spelled g c =
    let same : lists_of (slots_of c.in-Ok.sections.items) ≡ lists_of c.of_sections.result = ap (λ (d : Slots). lists_of d) (sym c.of_sections.ensures) in
    subst (λ (db : Lists). c.args.bytes.now ≡ text db) same
    (loaded_takes c.args.bytes.now (lists_of (slots_of c.in-Ok.sections.items)) (λ i. omega (arith, c.type_inv.bytes i)) c.in-Ok.ensures.sections).1

pub returns-in-Ok-clause-front : goal.returns-in-Ok-clause-front
returns-in-Ok-clause-front g c fault is =
    let bytes = c.args.bytes.now in
    absurd (front_refuses (front_loaded bytes) (loaded bytes) (lists_of (slots_of c.in-Ok.sections.items)) fault (leads_loaded bytes)
    c.in-Ok.ensures.sections is)

pub returns-in-Err-clause-front : goal.returns-in-Err-clause-front
returns-in-Err-clause-front g c fault is =
    let bytes = c.args.bytes.now in
    ap (λ (d : DumpFault). Err d)
    (c.dump_fault.ensures ∙ front_reported c.in-Err.error (front_loaded bytes) (loaded bytes) fault (leads_loaded bytes)
    c.in-Err.ensures.sections c.in-Err.ensures.memory is)
