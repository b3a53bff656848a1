use Rattle.std.proofs.Common.{◌∙◌, List, ap, subst}
use Rattle.lsdb.specs.Counts.{counts_of}
use Rattle.lsdb.specs.Slots.{Slot, full}
use Rattle.lsdb.specs.steps.Filtering.{filters_of}
use Rattle.lsdb.specs.steps.Indexes.{AreIndexes}
use Rattle.lsdb.proofs.keyed_slots.KeyedSlots.of.Goals as goal

pub invariant_of-result : goal.invariant_of-result
invariant_of-result g c = record {
  apart = c.requires.apart;
  widths = c.requires.widths;
  counted = c.of_slots-counts.ensures ∙ ap (λ (ps : List Slot). counts_of (full ps)) c.deref.ensures.value;
  filters = c.in_ok-filters.ensures ∙ ap filters_of c.deref-3.ensures.value;
  indexed = subst (λ (ps : List Slot). AreIndexes ps c.in_ok-indexes.indexes) c.deref-2.ensures.value c.in_ok-indexes.ensures;
}
