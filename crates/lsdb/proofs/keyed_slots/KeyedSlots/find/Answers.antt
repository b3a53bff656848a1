use Rattle.std.proofs.Common.{◌≡◌, ◌∙◌, List, [], ◌∷◌, false, refl, sym, ap, subst}
use Rattle.std.specs.Prelude.{All}
use Rattle.std.proofs.lemmas.Iterator.Consumers.{YieldsList-end, YieldsList-from_first}
use Rattle.std.proofs.lemmas.List.{map-id}
use Rattle.std.proofs.lemmas.List.Elements.{All-nil, All-cons, All-append}
use Rattle.lsa_codec.specs.declared.key.Key.{Key}
use Rattle.lsa_codec.specs.Order.{key_cmp}
use Rattle.lsa_codec.proofs.OrderLemmas.{key_exact, key_total}
use Rattle.lsdb.specs.declared.slot_index.SlotOf.{SlotOf}
use Rattle.lsdb.specs.Lists.{has_key}
use Rattle.lsdb.specs.Slots.{Slot, item_at}
use Rattle.lsdb.specs.steps.OneSlot.{IsFirstIndex, some_has_key}
use Rattle.lsdb.proofs.OneSection.{found_at, missing}
use Rattle.lsdb.proofs.SlotRanges.{same_within}
use Rattle.lsdb.proofs.keyed_slots.KeyedSlots.find.Goals as goal

pub returns-then-has_key_at : goal.returns-then-has_key_at
returns-then-has_key_at g c =
    let i = c.in-Some.noted.index in
    subst (λ (ps : List Slot). IsFirstIndex ps (has_key c.args.key) i) c.self.view_is
    (found_at c.self.inside.slots.items c.args.key i c.self.invariant.apart
    (ap (λ (ps : List Slot). some_has_key c.args.key (item_at ps i)) (sym c.deref.ensures.value) ∙ sym c.has_key_at.ensures ∙ c.if-has_key_at.true))

pub loop-noted-preserved : goal.loop-noted-preserved
loop-noted-preserved g c =
    let P : SlotOf Key → Type 0 = λ p. some_has_key c.args.key (item_at c.args.self.now p.index) ≡ false in
    let other : P c.in-Some.noted =
    ap (λ (ps : List Slot). some_has_key c.args.key (item_at ps c.in-Some.noted.index)) (sym (c.deref.ensures.value ∙ c.self.view_is))
    ∙ sym c.has_key_at.ensures ∙ c.if-has_key_at.false in
    All-append P c.loop-noted.yielded (c.in-Some.noted ∷ []) c.loop-noted.invariant (All-cons P c.in-Some.noted [] other (All-nil P))

pub returns : goal.returns
returns g c =
    let P : SlotOf Key → Type 0 = λ p. some_has_key c.args.key (item_at c.args.self.now p.index) ≡ false in
    let all = (YieldsList-end (YieldsList-from_first (λ (p : SlotOf Key). p) (λ (ps : List (SlotOf Key)). ps) c.keys_between-noted-items.result
    c.into_iter-noted-iterator.ensures.into_iter_gives) c.loop-noted.yielded _ c.loop-noted.yielded_by _ _ c.in-None.is c.next.ensures.steps).0 in
    missing c.args.self.now c.args.key c.keys_between-noted-items.result c.keys_between-noted-items.ensures
    (same_within key_cmp key_total key_exact c.args.key c.args.key refl)
    (subst (λ (ps : List (SlotOf Key)). All P ps) (sym (map-id c.loop-noted.yielded) ∙ all) c.loop-noted.invariant)
