use Rattle.std.proofs.Common.{◌≡◌, Some, List, map, sym, ap, subst, ◌∙◌}
use Rattle.lsa_codec.specs.Order.{prefix_cmp}
use Rattle.lsa_codec.specs.Prefix.{Net}
use Rattle.best_ways.specs.Best.{ways_of}
use Rattle.best_ways.specs.Candidate.{Candidate}
use Rattle.area_routes.specs.Offers.{AreSortedOffers, offer_of}
use Rattle.area_routes.proofs.Routed.{intra_by, offers_below, offers_by, sorted_offers}
use Rattle.area_routes.proofs.area_ways.AreaWays.into_routes.Goals as goal

pub returns-clause-offers : goal.returns-clause-offers
returns-clause-offers g c =
    offers_by c.args.area c.self.inside.ways c.self.invariant _ (c.into_vec.ensures.routes ∙ c.in_ok-into_routes_through.ensures)
    ∙ ap (λ (cs : List (Candidate Net)). map offer_of (ways_of prefix_cmp cs)) c.self.view_is

pub returns-clause-intra : goal.returns-clause-intra
returns-clause-intra g c =
    intra_by c.args.area c.self.inside.ways c.self.invariant _ (c.into_vec.ensures.routes ∙ c.in_ok-into_routes_through.ensures)

pub returns-clause-below : goal.returns-clause-below
returns-clause-below g c =
    offers_below c.args.area c.self.inside.ways c.self.invariant _ (c.into_vec.ensures.routes ∙ c.in_ok-into_routes_through.ensures)

pub returns-clause-sorted : goal.returns-clause-sorted
returns-clause-sorted g c = subst AreSortedOffers (sym (returns-clause-offers g c)) (sorted_offers c.args.self)
