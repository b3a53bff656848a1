use Rattle.std.proofs.Common.{[], ◌++◌, ◌∙◌, ℕ, List, Option, ap}
use Rattle.std.specs.List.{cons_option}
use Rattle.std.proofs.lemmas.Result.{on_ok_weaker}
use Rattle.audit_places.specs.Places.{PlaceValue}
use Rattle.audit_links.specs.Unequal.{place_by}
use Rattle.audit_links.proofs.unequal.push_place.Goals as goal

pub returns : goal.returns
returns g c =
    on_ok_weaker c.push_some.result
    (λ is. is
    ∙ ap (λ (o : Option PlaceValue). c.args.places.now.items ++ cons_option o [])
    (c.in_ok-place_by.ensures
    ∙ ap (λ (back : List ℕ). place_by c.args.area.now c.args.router c.args.before c.args.own back) (c.deref.ensures.value ∙ c.in_ok-back.ensures)))
    c.push_some.ensures
