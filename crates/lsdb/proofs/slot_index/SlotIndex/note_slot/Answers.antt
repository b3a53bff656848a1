use Rattle.std.proofs.Common.{◌∙◌, subst, sym, arith}
use Rattle.std.specs.Prelude.{Contains}
use Rattle.lsdb.proofs.SlotIndexes.{fits, narrow, none_there, noted_before, noted_same, noted_there}
use Rattle.lsdb.proofs.slot_index.SlotIndex.note_slot.Goals as goal

pub noted_at-requires : goal.noted_at-requires
noted_at-requires g c =
    omega (
      arith,
      c.requires.within,
      narrow g.K.Ord.cmp g.K.IndexKey.found_by c.args.slots.now c.args.index c.args.before.now c.args.self.now c.requires.within c.requires.before,
    )

pub was_noted-requires : goal.was_noted-requires
was_noted-requires g c =
    omega (
      arith,
      c.requires.within,
      narrow g.K.Ord.cmp g.K.IndexKey.found_by c.args.slots.now c.args.index c.args.before.now c.args.self.now c.requires.within c.requires.before,
    )

pub fill-requires-clause-fits : goal.fill-requires-clause-fits
fill-requires-clause-fits g c =
    fits g.K.Ord.cmp g.K.IndexKey.found_by c.args.slots.now c.args.index c.args.before.now c.args.self.now c.requires.within c.requires.before

pub fill-requires-clause-narrow : goal.fill-requires-clause-narrow
fill-requires-clause-narrow g c =
    narrow g.K.Ord.cmp g.K.IndexKey.found_by c.args.slots.now c.args.index c.args.before.now c.args.self.now c.requires.within c.requires.before

pub returns-in_default : goal.returns-in_default
returns-in_default g c =
    none_there g.K.Ord.cmp g.K.IndexKey.found_by c.args.slots.now c.args.index c.args.before.now c.args.self.now c.requires.within c.requires.before
    c.index-slots-index.result c.index-slots-index.is (sym c.noted_at.ensures ∙ c.in_default.is)

pub returns-then-was_noted : goal.returns-then-was_noted
returns-then-was_noted g c =
    noted_same g.K.Ord.cmp g.K.IndexKey.found_by c.args.slots.now c.args.index c.args.before.now c.args.self.now c.requires.within c.requires.before
    c.index-slots-index.result c.index-slots-index.is c.in-Some.slot (sym c.noted_at.ensures ∙ c.in-Some.is) (c.was_noted.ensures c.if-was_noted.true)

pub returns-then-is_noted : goal.returns-then-is_noted
returns-then-is_noted g c =
    noted_before g.K.Ord.cmp g.K.IndexKey.found_by c.args.slots.now c.args.index c.args.before.now c.args.self.now c.requires.within c.requires.before
    c.index-slots-index.result c.index-slots-index.is c.in-Some.slot (sym c.noted_at.ensures ∙ c.in-Some.is)
    (subst (λ noted. Contains noted c.in-Some.slot) c.deref.ensures.value (c.is_noted.ensures c.if-is_noted.true))

pub returns-else-not-note : goal.returns-else-not-note
returns-else-not-note g c =
    noted_there g.K.Ord.cmp g.K.IndexKey.found_by c.args.slots.now c.args.index c.args.before.now c.args.self.now c.requires.within c.requires.before
    c.index-slots-index.result c.index-slots-index.is c.in-Some.slot c.note.new.noted.items (sym c.noted_at.ensures ∙ c.in-Some.is)
    (c.note.ensures.noted c.if-not-note.false)
