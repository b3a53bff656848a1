use Rattle.std.proofs.Common.{◌++◌, ◌∙◌, List, ap}
use Rattle.audit_places.specs.Places.{PlaceValue}
use Rattle.audit_links.proofs.finding.LinkFindingFinding.push_found.Goals as goal

pub returns : goal.returns
returns g c =
    c.in_ok-append.ensures.items ∙ ap (λ (l : List PlaceValue). c.args.places.now.items ++ l) c.in_ok-found.ensures
