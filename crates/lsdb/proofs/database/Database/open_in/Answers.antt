use Rattle.std.proofs.Common.{refl, ap, ◌∙◌, ◌≡◌, ℕ, List, length}
use Rattle.std.specs.Prelude.{OnErr, Result, Ok, Err}
use Rattle.lsdb.specs.Slots.{Slot, Slots, open_at, slot_in, item_at, lists_of}
use Rattle.lsdb.specs.steps.View.{slots_of}
use Rattle.lsdb.proofs.Seen.{open_slots, kept_slots, slot_opened}
use Rattle.lsdb.proofs.SlotWrites.{lists_of-open_at}
use Rattle.lsdb.proofs.DumpLength.{kept_lists}
use Rattle.lsdb.proofs.database.Database.open_in.Goals as goal

on_err_from : {T E : Type 0} {P : Type 0} (r : Result T E) → P → OnErr r P
on_err_from (Ok x) p = tt
on_err_from (Err e) p = p

pub invariant_of-self : goal.invariant_of-self
invariant_of-self g c =
    kept_lists c.self.inside.sections.items _ c.self.inside.byte_count
    (ap (λ (d : Slots). lists_of d) (kept_slots c.self.inside.sections.items c.args.section c.index_mut.result.now _
    (rw c.self.view_is c.requires) c.index_mut.ensures.value refl c.in_err-push_empty.ensures.err))
    c.self.invariant

pub returns-in_err-push_empty-clause-err : goal.returns-in_err-push_empty-clause-err
returns-in_err-push_empty-clause-err g c =
    on_err_from c.from_residual.result
    (kept_slots c.self.inside.sections.items c.args.section c.index_mut.result.now _
    (rw c.self.view_is c.requires) c.index_mut.ensures.value refl c.in_err-push_empty.ensures.err ∙ c.self.view_is)

pub invariant_of-self-2 : goal.invariant_of-self-2
invariant_of-self-2 g c =
    kept_lists c.self.inside.sections.items _ c.self.inside.byte_count
    (ap (λ (d : Slots). lists_of d) (open_slots c.self.inside.sections.items c.args.section c.index_mut.result.now _
    (rw c.self.view_is c.requires) c.index_mut.ensures.value refl c.in_ok-push_empty.ensures.ok)
    ∙ lists_of-open_at (slots_of c.self.inside.sections.items) c.args.section)
    c.self.invariant

pub returns-clause-ok : goal.returns-clause-ok
returns-clause-ok g c =
    open_slots c.self.inside.sections.items c.args.section c.index_mut.result.now _
    (rw c.self.view_is c.requires) c.index_mut.ensures.value refl c.in_ok-push_empty.ensures.ok
    ∙ ap (λ (d : Slots). open_at d c.args.section) c.self.view_is

pub returns-clause-slot : goal.returns-clause-slot
returns-clause-slot g c =
    let sized : length c.as_slice-index.result.now ≡ length c.index_mut.result.now.slots = ap (λ (ps : List Slot). length ps) c.as_slice-index.ensures in
    ap (λ (d : Slots). slot_in (item_at d c.args.section) (length c.as_slice-index.result.now))
    (open_slots c.self.inside.sections.items c.args.section c.index_mut.result.now _
    (rw c.self.view_is c.requires) c.index_mut.ensures.value refl c.in_ok-push_empty.ensures.ok)
    ∙ ap (λ (i : ℕ). slot_in (item_at (open_at (slots_of c.self.inside.sections.items) c.args.section) c.args.section) i) sized
    ∙ slot_opened c.self.inside.sections.items c.args.section c.index_mut.result.now (rw c.self.view_is c.requires) c.index_mut.ensures.value
