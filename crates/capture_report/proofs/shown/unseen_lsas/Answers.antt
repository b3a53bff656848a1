use Rattle.std.proofs.Common.{List, subst, ◌∙◌}
use Rattle.std.specs.declared.cmp.Ordering.{Ordering}
use Rattle.std.proofs.lemmas.Result.{IfOk-weaker}
use Rattle.lsa_instances.specs.declared.place.Place.{Place}
use Rattle.lsa_instances.specs.Order.{place_cmp}
use Rattle.capture_report.specs.Sets.{AreMissing}
use Rattle.capture_report.specs.Unseen.{all_named}
use Rattle.capture_report.proofs.PlaceOrder.{same_cmp}
use Rattle.capture_report.proofs.shown.unseen_lsas.Goals as goal

pub returns : goal.returns
returns g c =
    IfOk-weaker c.missing.result _ _
    (λ lsas h.
    let P : (Place → Place → Ordering) → Type 0 = λ cmp. AreMissing cmp c.deref.result.now c.deref-2.result.now lsas.items in
    let Q : List Place → Type 0 = λ named. AreMissing place_cmp named c.deref-2.result.now lsas.items in
    let R : List Place → Type 0 = λ shown. AreMissing place_cmp (all_named c.args.files.now) shown lsas.items in
    subst R (c.deref-2.ensures.value ∙ c.in_ok-named.ensures.1) (subst Q (c.deref.ensures.value ∙ c.in_ok-named.ensures.0) (subst P same_cmp h)))
    c.missing.ensures
