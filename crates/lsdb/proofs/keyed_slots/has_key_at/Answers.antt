use Rattle.std.proofs.Common.{◌∙◌, sym, ap, arith}
use Rattle.std.proofs.lemmas.Bool.{ltb-true, ltb-false}
use Rattle.lsdb.specs.steps.OneSlot.{some_has_key}
use Rattle.lsdb.proofs.OneSection.{beyond, read}
use Rattle.lsdb.proofs.keyed_slots.has_key_at.Goals as goal

pub returns-in-Some : goal.returns-in-Some
returns-in-Some g c =
    c.has_key.ensures
    ∙ sym (ap (some_has_key c.args.key) (read c.args.slots.now c.args.index c.in-Some.content.now (ltb-true _ _ (sym c.in-Some.ensures.lookup.0))
    c.in-Some.ensures.lookup.1))

pub returns-in-None : goal.returns-in-None
returns-in-None g c =
    sym (ap (some_has_key c.args.key) (beyond c.args.slots.now c.args.index (omega (arith, ltb-false _ _ (sym c.in-None.ensures.lookup.0)))))
