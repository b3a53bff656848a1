use Rattle.std.proofs.Common.{◌≡◌, ◌∙◌, true, refl, sym, ap, Some}
use Rattle.std.specs.Ordering.{is_eq}
use Rattle.std.specs.declared.cmp.Ordering.{Ordering}
use Rattle.std.specs.declared.cmp.Ordering.TheVariants.{Less, Equal, Greater}
use Rattle.lsdb.proofs.SlotRanges.{slot_exact}
use Rattle.lsdb.proofs.slot_index.was_noted.Goals as goal

equal_is : (o : Ordering) → is_eq o ≡ true → o ≡ Equal
equal_is Less e = absurd cc
equal_is Equal e = refl
equal_is Greater e = absurd cc

pub returns-in-Some : goal.returns-in-Some
returns-in-Some g c is =
    sym c.noted_at.ensures ∙ c.in-Some.is
    ∙ ap (λ slot. Some slot) (slot_exact g.K.Ord.cmp g.met.K.IndexKey.exact c.in-Some.other c.args.slot.now
    (sym c.cmp.ensures ∙ equal_is c.cmp.result (sym c.is_eq.ensures ∙ is)))
