use Rattle.std.proofs.Common.{sym, ◌∙◌, List}
use Rattle.std.proofs.lemmas.Iterator.Consumers.{YieldsList-end, YieldsList-from_first, YieldsList-so_far, YieldsList-turn}
use Rattle.lsdb.specs.PrefixSlots.{SlotOfPrefix}
use Rattle.edit_history.proofs.OfPrefix.{none_more, hit_next, miss_all}
use Rattle.edit_history.proofs.lookup.first_of_prefix.Goals as goal

pub returns-then-is_wanted_at : goal.returns-then-is_wanted_at
returns-then-is_wanted_at g c =
    let listed = YieldsList-from_first (λ (entry : SlotOfPrefix). entry) (λ (slots : List SlotOfPrefix). slots) c.slots_of_prefix-entry-items.result
    c.into_iter-entry-iterator.ensures.into_iter_gives in
    let turn = YieldsList-turn listed c.loop-entry.yielded _ c.loop-entry.yielded_by _ _ c.in-Some.entry c.in-Some.is c.next.ensures.steps in
    hit_next c.args.wanted.now c.args.database.now c.args.section c.args.router c.args.prefix c.slots_of_prefix-entry-items.result
    c.slots_of_prefix-entry-items.ensures c.requires.own c.loop-entry.yielded c.in-Some.entry (YieldsList-so_far listed c.loop-entry.yielded _ c.loop-entry.yielded_by)
    turn.0 turn.1 c.loop-entry.invariant (sym c.is_wanted_at.ensures ∙ c.if-is_wanted_at.true)

pub loop-entry-preserved : goal.loop-entry-preserved
loop-entry-preserved g c =
    none_more c.args.wanted.now c.args.database.now c.args.section c.loop-entry.yielded c.in-Some.entry c.loop-entry.invariant
    (sym c.is_wanted_at.ensures ∙ c.if-is_wanted_at.false)

pub returns : goal.returns
returns g c =
    let listed = YieldsList-from_first (λ (entry : SlotOfPrefix). entry) (λ (slots : List SlotOfPrefix). slots) c.slots_of_prefix-entry-items.result
    c.into_iter-entry-iterator.ensures.into_iter_gives in
    miss_all c.args.wanted.now c.args.database.now c.args.section c.args.router c.args.prefix c.slots_of_prefix-entry-items.result
    c.slots_of_prefix-entry-items.ensures c.requires.own c.loop-entry.yielded
    (YieldsList-end listed c.loop-entry.yielded _ c.loop-entry.yielded_by _ _ c.in-None.is c.next.ensures.steps).0 c.loop-entry.invariant
