use Rattle.std.proofs.Common.{◌≡◌, refl, sym, ap, ◌∙◌, subst, Some, None, Option, rules}
use Rattle.std.specs.Prelude.{IsSome}
use Rattle.lsdb.specs.declared.slot.SlotId.{SlotId}
use Rattle.lsdb.specs.Lists.{IsDatabase}
use Rattle.lsdb.specs.Slots.{Slot, Slots, put, slot_at, lists_of}
use Rattle.lsdb.proofs.SlotLemmas.{put-put, put-slot_at, slot_at-put, put_safe}
use Rattle.test_databases.proofs.tests.slots.seen_without.Goals as goal

emptied : (d : Slots) (slot : SlotId) → IsSome (slot_at d slot) → IsDatabase (lists_of d) → IsDatabase (lists_of (put d slot None))
emptied d slot some db = by_place (slot_at d slot) refl some where
  by_place : (o : Option Slot) → slot_at d slot ≡ o → IsSome o → IsDatabase (lists_of (put d slot None))
  by_place None e some = absurd (search rules)
  by_place (Some v) e some = put_safe d slot v None e tt db

-- what was taken goes back to its slot
put_back : (d : Slots) (slot : SlotId) (v : Slot) → slot_at d slot ≡ Some v → put (put d slot None) slot v ≡ d
put_back d slot v at = put-put d slot None v ∙ put-slot_at d slot v at

pub swap-requires-clause-sound : goal.swap-requires-clause-sound
swap-requires-clause-sound c = emptied c.args.database.now c.args.slot c.requires c.assert_valid.ensures

pub swap-requires-2-clause-exists : goal.swap-requires-2-clause-exists
swap-requires-2-clause-exists c =
    subst (λ (d : Slots). IsSome (slot_at d c.args.slot)) (sym c.swap.ensures.put)
    (subst IsSome (sym (slot_at-put c.args.database.now c.args.slot None c.swap.new.content c.swap.ensures.content)) refl)

pub swap-requires-2-clause-sound : goal.swap-requires-2-clause-sound
swap-requires-2-clause-sound c =
    subst (λ (d : Slots). IsDatabase (lists_of d))
    (sym (ap (λ (d : Slots). put d c.args.slot c.swap.new.content) c.swap.ensures.put
    ∙ put_back c.args.database.now c.args.slot c.swap.new.content c.swap.ensures.content))
    c.assert_valid.ensures

pub returns : goal.returns
returns c =
    c.swap-2.ensures.put
    ∙ ap (λ (d : Slots). put d c.args.slot c.swap.new.content) c.swap.ensures.put
    ∙ put_back c.args.database.now c.args.slot c.swap.new.content c.swap.ensures.content
