use Rattle.std.proofs.Common.{refl, sym, ap, ◌∙◌, ◌≡◌, arith, Some}
use Rattle.std.specs.Prelude.{IsSome}
use Rattle.lsdb.specs.Slots.{Slots, put, slot_at, lists_of}
use Rattle.lsdb.specs.Lists.{IsDatabase}
use Rattle.lsdb.specs.steps.View.{slots_of}
use Rattle.lsdb.proofs.Seen.{swap_put, swap_read, slot_within, slot_fits}
use Rattle.lsdb.proofs.DumpLength.{kept_put, size_moved, slot_size_fits}
use Rattle.lsdb.proofs.database.Database.swap.Goals as goal

pub swap-requires-clause-within : goal.swap-requires-clause-within
swap-requires-clause-within g c =
    slot_within c.self.inside.sections.items c.args.slot.section c.args.slot.index c.index_mut-section.result.now
    (rw c.self.view_is c.requires.exists) c.index_mut-section.ensures.value

pub swap-requires-clause-sound : goal.swap-requires-clause-sound
swap-requires-clause-sound g c =
    let sound : IsDatabase (lists_of (put (slots_of c.self.inside.sections.items) c.args.slot c.args.content.now)) = rw c.self.view_is c.requires.sound in
    slot_fits c.self.inside.sections.items c.args.slot c.index_mut-section.result.now c.args.content.now
    (rw c.self.view_is c.requires.exists) c.index_mut-section.ensures.value sound.sections

pub returns-clause-put : goal.returns-clause-put
returns-clause-put g c =
    swap_put c.self.inside.sections.items c.args.slot c.index_mut-section.result.now _ c.args.content.now
    (rw c.self.view_is c.requires.exists) c.index_mut-section.ensures.value refl c.swap.ensures.put
    ∙ ap (λ (d : Slots). put d c.args.slot c.args.content.now) c.self.view_is

pub overflow_sub-self : goal.overflow_sub-self
overflow_sub-self g c =
    let ss = c.self.inside.sections.items in
    let at : slot_at (slots_of ss) c.args.slot ≡ Some c.swap.new.content =
    swap_read ss c.args.slot c.index_mut-section.result.now c.swap.new.content
    (rw c.self.view_is c.requires.exists) c.index_mut-section.ensures.value c.swap.ensures.content in
    omega (arith, slot_size_fits (slots_of ss) c.args.slot c.swap.new.content at, c.slot_size.ensures, c.self.invariant.byte_count)

pub overflow_add-self : goal.overflow_add-self
overflow_add-self g c =
    let ss = c.self.inside.sections.items in
    let at : slot_at (slots_of ss) c.args.slot ≡ Some c.swap.new.content =
    swap_read ss c.args.slot c.index_mut-section.result.now c.swap.new.content
    (rw c.self.view_is c.requires.exists) c.index_mut-section.ensures.value c.swap.ensures.content in
    let sound : IsDatabase (lists_of (put (slots_of ss) c.args.slot c.args.content.now)) = rw c.self.view_is c.requires.sound in
    omega (
      arith,
      size_moved (slots_of ss) c.args.slot c.swap.new.content c.args.content.now c.self.inside.byte_count at
          c.self.invariant.byte_count,
      c.slot_size.ensures,
      c.slot_size-given.ensures,
      sound.small,
    )

pub invariant_of-self : goal.invariant_of-self
invariant_of-self g c =
    let ss = c.self.inside.sections.items in
    let exists : IsSome (slot_at (slots_of ss) c.args.slot) = rw c.self.view_is c.requires.exists in
    kept_put ss _ c.args.slot c.swap.new.content c.args.content.now c.self.inside.byte_count _
    (swap_put ss c.args.slot c.index_mut-section.result.now _ c.args.content.now exists c.index_mut-section.ensures.value refl c.swap.ensures.put)
    (swap_read ss c.args.slot c.index_mut-section.result.now c.swap.new.content exists c.index_mut-section.ensures.value c.swap.ensures.content)
    (rw c.self.view_is c.requires.sound)
    (omega (arith, c.slot_size.ensures, c.slot_size-given.ensures))
    c.self.invariant

pub returns-clause-content : goal.returns-clause-content
returns-clause-content g c =
    ap (λ (d : Slots). slot_at d c.args.slot) (sym c.self.view_is)
    ∙ swap_read c.self.inside.sections.items c.args.slot c.index_mut-section.result.now c.swap.new.content
    (rw c.self.view_is c.requires.exists) c.index_mut-section.ensures.value c.swap.ensures.content
