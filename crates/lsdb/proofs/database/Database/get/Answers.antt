use Rattle.std.proofs.Common.{◌≡◌, ◌∙◌, Some, None, MatchOption, sym, subst, ap, arith}
use Rattle.std.proofs.lemmas.Bool.{ltb-true, ltb-false}
use Rattle.lsdb.specs.Slots.{Slots, lsa_at, slot_at}
use Rattle.lsdb.specs.steps.View.{slots_of}
use Rattle.lsdb.proofs.Walked.{lsa_beyond, lsa_there}
use Rattle.lsdb.proofs.database.Database.get.Goals as goal

pub returns-in_err-content : goal.returns-in_err-content
returns-in_err-content g c =
    rw c.from_residual-in_err-content.ensures (subst (λ (d : Slots). lsa_at d c.args.slot ≡ None) (ap slots_of c.deref.ensures.value ∙ c.self.view_is)
    (lsa_beyond c.deref.result.now c.args.slot c.in_ok-section.section.now c.as_slice.result.now (ltb-true _ _ (sym c.in_ok-section.ensures.lookup.0))
    c.in_ok-section.ensures.lookup.1 c.as_slice.ensures (omega (arith, ltb-false _ _ (sym c.in_err-content.ensures.lookup.0)))))

pub returns : goal.returns
returns g c =
    subst (λ (d : Slots). MatchOption c.as_ref.result (lsa_at d c.args.slot ≡ None) (λ lsa. slot_at d c.args.slot ≡ Some (Some lsa.now)))
    (ap slots_of c.deref.ensures.value ∙ c.self.view_is)
    (lsa_there c.deref.result.now c.args.slot c.in_ok-section.section.now c.as_slice.result.now (ltb-true _ _ (sym c.in_ok-section.ensures.lookup.0))
    c.in_ok-section.ensures.lookup.1 c.as_slice.ensures c.in_ok-content.content.now c.as_ref.result (ltb-true _ _ (sym c.in_ok-content.ensures.lookup.0))
    c.in_ok-content.ensures.lookup.1 c.as_ref.ensures.value)
