use Rattle.std.proofs.Common.{[], ◌∷◌, ◌++◌, ◌∙◌, ap}
use Rattle.lsa_codec.specs.Prefix.{Net}
use Rattle.area_routes.proofs.AddsLemmas.{map_adds}
use Rattle.audit_places.specs.Places.{PlaceValue, at_route}
use Rattle.audit_routes.proofs.Loops.{begun, ended, one_more}
use Rattle.audit_routes.proofs.places.push_routes.Goals as goal

pub loop-net-init : goal.loop-net-init
loop-net-init g c = begun (map_adds (λ (net : Net). at_route c.args.router net)) c.args.places.now.items c.args.nets.now

pub loop-net-preserved : goal.loop-net-preserved
loop-net-preserved g c =
    one_more (map_adds (λ (net : Net). at_route c.args.router net)) c.args.places.now.items c.args.nets.now
    c.loop-net.net-index c.net-item.result _ _ c.loop-net-test.true c.net-item.is c.loop-net.invariant
    (c.in_ok-push.ensures.items ∙ ap (λ (p : PlaceValue). c.loop-net.places.items ++ p ∷ []) c.of.ensures)

pub returns : goal.returns
returns g c =
    ended (map_adds (λ (net : Net). at_route c.args.router net)) c.args.places.now.items c.args.nets.now
    c.loop-net.net-index c.loop-net.places.items c.loop-net-test.false c.loop-net.invariant
