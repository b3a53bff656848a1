use Rattle.std.proofs.Common.{◌≡◌, ◌∙◌, ◌++◌, ℕ, List, [], ◌∷◌, None, length, map, vec_len, ap, sym, subst, arith, rules}
use Rattle.std.specs.Prelude.{All}
use Rattle.lsa_codec.specs.Key.{key_of}
use Rattle.lsdb.specs.declared.transit_filters.TransitFilter.{TransitFilter}
use Rattle.lsdb.specs.Counts.{counts_of}
use Rattle.lsdb.specs.KeyRanges.{HaveWidths}
use Rattle.lsdb.specs.Lists.{AreDistinct}
use Rattle.lsdb.specs.Slots.{Slot, full}
use Rattle.lsdb.specs.steps.Filtering.{filters_of}
use Rattle.lsdb.specs.steps.Indexes.{AreIndexes}
use Rattle.lsdb.proofs.Filters.{filters_opened}
use Rattle.lsdb.proofs.Full.{full-skip}
use Rattle.lsdb.proofs.keyed_slots.KeyedSlots.push_empty.Goals as goal

pub invariant_of-self-2 : goal.invariant_of-self-2
invariant_of-self-2 g c =
    let ps = c.self.inside.slots.items in
    let sized : vec_len c.self.inside.slots ≡ length ps = search rules in
    let opened : c.push.new.self.items ≡ ps ++ None ∷ [] = c.in_ok-push.ensures.items in
    let same : full ps ≡ full c.push.new.self.items = sym (ap (λ (qs : List Slot). full qs) opened ∙ full-skip ps) in
    record {
      apart = subst (λ (xs : List (List ℕ)). AreDistinct (map key_of xs)) same c.self.invariant.apart;
      widths = subst (λ (xs : List (List ℕ)). All HaveWidths xs) same c.self.invariant.widths;
      counted = c.self.invariant.counted ∙ ap counts_of same;
      filters =
          filters_opened ps c.push.new.self.items c.self.inside.filters.items c.push_reserved.new.self.items
          c.self.invariant.filters c.in_ok-push.ensures.items
          (c.push_reserved.ensures.items ∙ ap (λ (filters : List TransitFilter). filters ++ c.empty.result ∷ []) c.reserve.ensures.items
          ∙ ap (λ (filter : TransitFilter). c.self.inside.filters.items ++ filter ∷ []) c.empty.ensures);
      indexed =
          subst (λ (qs : List Slot). AreIndexes qs c.reserve_for.new.self) (sym opened)
          (c.in_ok-reserve_for.ensures.opened ps (omega (arith, sized, c.len.ensures)) c.self.invariant.indexed);
    }

pub invariant_of-self-in_err-push : goal.invariant_of-self-in_err-push
invariant_of-self-in_err-push g c =
    let ps = c.self.inside.slots.items in
    let same : ps ≡ c.push.new.self.items = sym c.in_err-push.ensures.items in
    record {
      apart = subst (λ (qs : List Slot). AreDistinct (map key_of (full qs))) same c.self.invariant.apart;
      widths = subst (λ (qs : List Slot). All HaveWidths (full qs)) same c.self.invariant.widths;
      counted = c.self.invariant.counted ∙ ap (λ (qs : List Slot). counts_of (full qs)) same;
      filters = c.reserve.ensures.items ∙ c.self.invariant.filters ∙ ap filters_of same;
      indexed =
          subst (λ (qs : List Slot). AreIndexes qs c.reserve_for.new.self) same (c.reserve_for.ensures.kept ps c.self.invariant.indexed);
    }

pub invariant_of-self : goal.invariant_of-self
invariant_of-self g c = record {
  apart = c.self.invariant.apart;
  widths = c.self.invariant.widths;
  counted = c.self.invariant.counted;
  filters = c.self.invariant.filters;
  indexed = c.reserve_for.ensures.kept c.self.inside.slots.items c.self.invariant.indexed;
}

pub invariant_of-self-in_err-reserve : goal.invariant_of-self-in_err-reserve
invariant_of-self-in_err-reserve g c = record {
  apart = c.self.invariant.apart;
  widths = c.self.invariant.widths;
  counted = c.self.invariant.counted;
  filters = c.reserve.ensures.items ∙ c.self.invariant.filters;
  indexed = c.reserve_for.ensures.kept c.self.inside.slots.items c.self.invariant.indexed;
}
