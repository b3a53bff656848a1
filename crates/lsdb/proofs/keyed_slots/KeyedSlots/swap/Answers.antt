use Rattle.std.proofs.Common.{◌≡◌, ◌∙◌, ◌<◌, ap, sym, subst, List, [], ◌∷◌, Some, length}
use Rattle.std.specs.Prelude.{All}
use Rattle.lsdb.specs.KeyRanges.{HaveWidths}
use Rattle.lsdb.specs.Slots.{Slot, full, item_at, put_slot}
use Rattle.lsdb.specs.steps.Indexes.{AreIndexes}
use Rattle.lsdb.specs.steps.OneSection.{AreApart, FitSection}
use Rattle.lsdb.proofs.Seen.{slot_set}
use Rattle.lsdb.proofs.OneSection.{added, counted_set, put_back, put_is, read_is, set_read, taken, widths_put}
use Rattle.lsdb.proofs.Filters.{filters_put}
use Rattle.lsdb.proofs.keyed_slots.KeyedSlots.swap.Goals as goal

pub returns-clause-put : goal.returns-clause-put
returns-clause-put g c =
    put_is c.self.inside.slots.items c.args.self.now c.args.index c.swap.new.x c.args.content.now c.swap.ensures.x_after c.self.view_is

pub returns-clause-content : goal.returns-clause-content
returns-clause-content g c =
    subst (λ (ps : List Slot). item_at ps c.args.index ≡ Some c.swap.new.y) c.self.view_is
    (read_is c.self.inside.slots.items c.args.index c.swap.new.y c.index_mut.result.now (rw c.self.view_is c.requires.within)
    c.index_mut.ensures.value c.swap.ensures.y_after)

pub without-others-requires : goal.without-others-requires
without-others-requires g c =
    let within : c.args.index < length c.self.inside.slots.items = rw c.self.view_is c.requires.within in
    let before : item_at c.self.inside.slots.items c.args.index ≡ Some c.swap.new.y =
    read_is c.self.inside.slots.items c.args.index c.swap.new.y c.index_mut.result.now within c.index_mut.ensures.value c.swap.ensures.y_after in
    taken c.self.inside.slots.items c.args.index c.swap.new.y c.self.inside.counts c.of_slot.result before
    c.self.invariant.counted c.of_slot.ensures.counts

pub with-self-inside-requires : goal.with-self-inside-requires
with-self-inside-requires g c =
    let ps = c.self.inside.slots.items in
    let within : c.args.index < length ps = rw c.self.view_is c.requires.within in
    let before : item_at ps c.args.index ≡ Some c.swap.new.y =
    read_is ps c.args.index c.swap.new.y c.index_mut.result.now within c.index_mut.ensures.value c.swap.ensures.y_after in
    added ps c.args.index c.swap.new.y c.swap.new.x c.index-2.result.now within before c.index-2.ensures
    c.self.inside.counts c.without-others.result c.of_slot.result c.of_slot-2.result c.self.invariant.counted c.of_slot.ensures.counts
    c.without-others.ensures c.of_slot-2.ensures.counts
    (subst (λ (qs : List Slot). FitSection qs)
    (sym (put_is ps c.args.self.now c.args.index c.swap.new.x c.args.content.now c.swap.ensures.x_after c.self.view_is)
    ∙ slot_set c.swap.new.x ps c.args.index)
    c.requires.sound)

pub note_slot-requires-clause-before : goal.note_slot-requires-clause-before
note_slot-requires-clause-before g c =
    let ps = c.self.inside.slots.items in
    let before : item_at ps c.args.index ≡ Some c.swap.new.y =
    read_is ps c.args.index c.swap.new.y c.index_mut.result.now (rw c.self.view_is c.requires.within) c.index_mut.ensures.value c.swap.ensures.y_after in
    subst (λ (qs : List Slot). AreIndexes qs c.self.inside.indexes)
    (sym (ap (λ (qs : List Slot). put_slot c.swap.new.y qs c.args.index) c.deref.ensures.value
    ∙ put_back ps c.args.index c.swap.new.x c.swap.new.y before)) c.self.invariant.indexed

pub invariant_of-self : goal.invariant_of-self
invariant_of-self g c =
    let ps = c.self.inside.slots.items in
    let within : c.args.index < length ps = rw c.self.view_is c.requires.within in
    let before : item_at ps c.args.index ≡ Some c.swap.new.y =
    read_is ps c.args.index c.swap.new.y c.index_mut.result.now within c.index_mut.ensures.value c.swap.ensures.y_after in
    let here : c.index.result.now ≡ c.swap.new.x = set_read ps c.args.index c.swap.new.x c.index.result.now within c.index.ensures in
    record {
      apart =
          subst (λ (qs : List Slot). AreApart qs)
          (sym (put_is ps c.args.self.now c.args.index c.swap.new.x c.args.content.now c.swap.ensures.x_after c.self.view_is)) c.requires.sound.apart;
      widths =
          subst (λ (qs : List Slot). All HaveWidths (full qs)) (sym (slot_set c.swap.new.x ps c.args.index))
          (widths_put ps c.args.index c.swap.new.x c.self.invariant.widths
          (subst (λ (p : Slot). All HaveWidths (full (p ∷ []))) here c.assert_widths.ensures));
      counted =
          counted_set ps c.args.index c.swap.new.y c.swap.new.x c.index-2.result.now within before c.index-2.ensures
          c.self.inside.counts c.without-others.result c.of_slot.result c.of_slot-2.result c.self.invariant.counted c.of_slot.ensures.counts
          c.without-others.ensures c.of_slot-2.ensures.counts _ c.with-self-inside.ensures;
      filters =
          filters_put ps c.self.inside.filters.items c.args.index c.swap.new.x c.deref-2.result.now _
          c.self.invariant.filters c.deref-2.ensures.value within c.put_filter.ensures;
      indexed = subst (λ (qs : List Slot). AreIndexes qs c.note_slot.new.self) c.deref.ensures.value c.note_slot.ensures;
    }
