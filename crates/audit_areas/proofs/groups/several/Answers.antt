use Rattle.std.proofs.Common.{◌∙◌, map, ap}
use Rattle.std.specs.Prelude.{filter}
use Rattle.std.proofs.lemmas.Result.{IfOk-weaker}
use Rattle.audit_areas.specs.Groups.{has_several}
use Rattle.audit_areas.proofs.Grouping.{map-filter}
use Rattle.audit_areas.proofs.groups.several.Goals as goal

pub returns : goal.returns
returns g c =
    IfOk-weaker c.with_several.result _ _
    (λ found is. ap (map (λ p. (p.0, p.1.items))) is ∙ map-filter (λ p. (p.0, p.1.items)) has_several c.in_ok-groups.groups.items
    ∙ ap (filter has_several) c.in_ok-groups.ensures)
    c.with_several.ensures
