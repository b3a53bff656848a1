use Rattle.std.proofs.Common.{List, subst, sym, ◌∙◌}
use Rattle.std.proofs.lemmas.Iterator.Consumers.{YieldsList-end, YieldsList-from_first}
use Rattle.std.proofs.lemmas.List.{map-id}
use Rattle.lsdb.specs.KeyRanges.{KeyAt}
use Rattle.edit_history.proofs.Candidates.{IsLeast, least_hit, least_miss, none_first, first_slot}
use Rattle.edit_history.proofs.lookup.first_by_keys.Goals as goal

pub loop-noted-preserved-then-is_wanted_by_key : goal.loop-noted-preserved-then-is_wanted_by_key
loop-noted-preserved-then-is_wanted_by_key g c =
    least_hit c.args.wanted.now c.args.database.now c.args.section c.loop-noted.yielded c.in-Some.noted c.loop-noted.first c.loop-noted.invariant
    c.lesser.result c.lesser.ensures (sym c.is_wanted_by_key.ensures ∙ c.if-is_wanted_by_key.true)

pub loop-noted-preserved : goal.loop-noted-preserved
loop-noted-preserved g c =
    least_miss c.args.wanted.now c.args.database.now c.args.section c.loop-noted.yielded c.in-Some.noted c.loop-noted.first c.loop-noted.invariant
    (sym c.is_wanted_by_key.ensures ∙ c.if-is_wanted_by_key.false)

pub returns-in_default : goal.returns-in_default
returns-in_default g c =
    let all = (YieldsList-end (YieldsList-from_first (λ (noted : KeyAt). noted) (λ (keys : List KeyAt). keys) c.keys_between-noted-items.result
    c.into_iter-noted-iterator.ensures.into_iter_gives) c.loop-noted.yielded _ c.loop-noted.yielded_by _ _ c.in-None.is c.next.ensures.steps).0 in
    none_first c.args.wanted.now c.args.database.now c.args.section c.key_range.result.0 c.key_range.result.1 c.keys_between-noted-items.result
    c.loop-noted.first c.keys_between-noted-items.ensures c.key_range.ensures
    (subst (λ (keys : List KeyAt). IsLeast c.args.wanted.now c.args.database.now c.args.section keys c.loop-noted.first)
    (sym (map-id c.loop-noted.yielded) ∙ all) c.loop-noted.invariant)
    c.in_default.is

pub returns : goal.returns
returns g c =
    let all = (YieldsList-end (YieldsList-from_first (λ (noted : KeyAt). noted) (λ (keys : List KeyAt). keys) c.keys_between-noted-items.result
    c.into_iter-noted-iterator.ensures.into_iter_gives) c.loop-noted.yielded _ c.loop-noted.yielded_by _ _ c.in-None.is c.next.ensures.steps).0 in
    first_slot c.args.wanted.now c.args.database.now c.args.section c.key_range.result.0 c.key_range.result.1 c.keys_between-noted-items.result
    c.loop-noted.first c.keys_between-noted-items.ensures c.key_range.ensures
    (subst (λ (keys : List KeyAt). IsLeast c.args.wanted.now c.args.database.now c.args.section keys c.loop-noted.first)
    (sym (map-id c.loop-noted.yielded) ∙ all) c.loop-noted.invariant)
    c.in-Some-first.index c.in-Some-first.is
