use Rattle.std.proofs.Common.{◌≡◌, ◌∙◌, List, length, ap, sym, subst, arith, vec_len, rules}
use Rattle.std.specs.Prelude.{All}
use Rattle.lsdb.specs.Counts.{counts_of}
use Rattle.lsdb.specs.KeyRanges.{HaveWidths}
use Rattle.lsdb.specs.Slots.{Slot, full}
use Rattle.lsdb.specs.steps.Filtering.{filters_of}
use Rattle.lsdb.specs.steps.Indexes.{AreIndexes}
use Rattle.lsdb.specs.steps.OneSection.{AreApart}
use Rattle.lsdb.proofs.keyed_slots.KeyedSlots.clone_of.Goals as goal

pub invariant_of-result : goal.invariant_of-result
invariant_of-result g c =
    let copied : c.self.inside.slots.items ≡ c.in_ok-slots.slots.items = sym (c.in_ok-slots.ensures ∙ c.deref.ensures.value) in
    let sized : vec_len c.in_ok-slots.slots ≡ length c.in_ok-slots.slots.items = search rules in
    record {
      apart = subst (λ (ps : List Slot). AreApart ps) copied c.self.invariant.apart;
      widths = subst (λ (ps : List Slot). All HaveWidths (full ps)) copied c.self.invariant.widths;
      counted = c.self.invariant.counted ∙ ap (λ (ps : List Slot). counts_of (full ps)) copied;
      filters = c.in_ok-filters.ensures.items ∙ c.deref-2.ensures.value ∙ c.self.invariant.filters ∙ ap filters_of copied;
      indexed =
          c.in_ok-indexes.ensures c.in_ok-slots.slots.items (omega (arith, sized, c.len.ensures))
          (subst (λ (ps : List Slot). AreIndexes ps c.self.inside.indexes) copied c.self.invariant.indexed);
    }
