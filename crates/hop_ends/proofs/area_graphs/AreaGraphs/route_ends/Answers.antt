use Rattle.std.proofs.Common.{◌≡◌, ◌∙◌, ap, subst}
use Rattle.std.specs.Prelude.{IfOk}
use Rattle.lsa_codec.specs.declared.address.RouterId.{RouterId}
use Rattle.lsdb.specs.Lists.{Lists}
use Rattle.route_candidates.specs.RouterViews.{RouterViewValue}
use Rattle.first_ends.specs.FirstEnds.{route_ends}
use Rattle.hop_ends.proofs.area_graphs.AreaGraphs.route_ends.Goals as goal

-- a router of a database
abbrev router_of : RouterId → Lists → RouterViewValue
router_of router db = record { db = db; router = router }

pub returns-in-Some : goal.returns-in-Some
returns-in-Some g c =
    subst (λ (v : RouterViewValue). IfOk c.route_ends.result (λ ends. ends.items ≡ route_ends v c.args.net c.args.interface)) c.in-Some.ensures
    c.route_ends.ensures

pub returns : goal.returns
returns g c =
    subst (λ (v : RouterViewValue). IfOk c.route_ends-2.result (λ ends. ends.items ≡ route_ends v c.args.net c.args.interface))
    (c.in_ok-view.ensures ∙ ap (router_of c.args.router) c.database.ensures) c.route_ends-2.ensures
