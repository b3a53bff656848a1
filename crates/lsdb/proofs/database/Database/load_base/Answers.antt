use Rattle.std.proofs.Common.{◌≡◌, ◌∙◌, arith, ap, subst, sym, take, Err}
use Rattle.lsdb.specs.Lists.{Lists}
use Rattle.lsdb.specs.Slots.{Slots, lists_of}
use Rattle.lsdb.specs.steps.View.{slots_of}
use Rattle.lsdb.specs.BaseText.{base_text}
use Rattle.lsdb.specs.declared.fault.DumpFault.{DumpFault}
use Rattle.lsdb.specs.BaseLoading.{base_loaded, base_front_loaded}
use Rattle.lsdb.proofs.FrontFaults.{leads_base_loaded, front_refuses, front_reported}
use Rattle.lsdb.proofs.BaseParts.{base_loaded_is}
use Rattle.lsdb.proofs.database.Database.load_base.Goals as goal

pub of_sections-requires-clause-sound : goal.of_sections-requires-clause-sound
of_sections-requires-clause-sound g c =
    let db : Lists = lists_of (slots_of c.in-Ok.sections.items) in
    (base_loaded_is c.args.bytes.now db c.in-Ok.byte_count (λ i. omega (arith, c.type_inv.bytes i)) c.in-Ok.ensures.base).database

pub of_sections-requires-clause-byte_count : goal.of_sections-requires-clause-byte_count
of_sections-requires-clause-byte_count g c =
    let db : Lists = lists_of (slots_of c.in-Ok.sections.items) in
    (base_loaded_is c.args.bytes.now db c.in-Ok.byte_count (λ i. omega (arith, c.type_inv.bytes i)) c.in-Ok.ensures.base).byte_count

pub returns-in-Ok-clause-spelled : goal.returns-in-Ok-clause-spelled
returns-in-Ok-clause-spelled g c =
    let found : Lists = lists_of (slots_of c.in-Ok.sections.items) in
    let same : found ≡ lists_of c.of_sections.result = ap (λ (d : Slots). lists_of d) (sym c.of_sections.ensures) in
    subst (λ (db : Lists). take c.in-Ok.byte_count c.args.bytes.now ≡ base_text db) same
    (base_loaded_is c.args.bytes.now found c.in-Ok.byte_count (λ i. omega (arith, c.type_inv.bytes i)) c.in-Ok.ensures.base).spelled

pub returns-in-Ok-clause-within : goal.returns-in-Ok-clause-within
returns-in-Ok-clause-within g c =
    let db : Lists = lists_of (slots_of c.in-Ok.sections.items) in
    (base_loaded_is c.args.bytes.now db c.in-Ok.byte_count (λ i. omega (arith, c.type_inv.bytes i)) c.in-Ok.ensures.base).within

pub returns-in-Ok-clause-front : goal.returns-in-Ok-clause-front
returns-in-Ok-clause-front g c fault is =
    let bytes = c.args.bytes.now in
    absurd (front_refuses (base_front_loaded bytes) (base_loaded bytes) (lists_of (slots_of c.in-Ok.sections.items), c.in-Ok.byte_count) fault
    (leads_base_loaded bytes) c.in-Ok.ensures.base is)

pub returns-in-Err-clause-front : goal.returns-in-Err-clause-front
returns-in-Err-clause-front g c fault is =
    let bytes = c.args.bytes.now in
    ap (λ (d : DumpFault). Err d)
    (c.dump_fault.ensures ∙ front_reported c.in-Err.error (base_front_loaded bytes) (base_loaded bytes) fault (leads_base_loaded bytes)
    c.in-Err.ensures.base c.in-Err.ensures.memory is)
