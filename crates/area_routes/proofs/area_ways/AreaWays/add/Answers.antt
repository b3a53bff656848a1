use Rattle.std.proofs.Common.{◌∷◌, List, refl, sym, subst}
use Rattle.std.specs.List.{All}
use Rattle.std.proofs.lemmas.List.Elements.{All-push}
use Rattle.lsa_codec.specs.Prefix.{Net}
use Rattle.best_ways.specs.Candidate.{Candidate}
use Rattle.area_routes.specs.Offers.{offer_candidate}
use Rattle.area_routes.specs.steps.OneArea.{IsWithinArea}
use Rattle.area_routes.proofs.area_ways.AreaWays.add.Goals as goal

pub invariant_of-self : goal.invariant_of-self
invariant_of-self g c = subst (λ (cs : List (Candidate Net)). All IsWithinArea cs) (sym c.in_err-add_candidate.ensures.same) c.self.invariant

pub invariant_of-self-2 : goal.invariant_of-self-2
invariant_of-self-2 g c =
    subst (λ (cs : List (Candidate Net)). All IsWithinArea cs) (sym (c.in_ok-add_candidate.ensures.added c.self.inside.ways refl))
    (All-push IsWithinArea c.self.inside.ways (offer_candidate (record { net = c.args.net; cost = c.args.cost; hops = c.args.hops.now }))
    c.self.invariant (record { path = refl; cost2 = refl; below = c.requires }))

pub returns : goal.returns
returns g c = c.in_ok-add_candidate.ensures.added c.args.self.now c.self.view_is
