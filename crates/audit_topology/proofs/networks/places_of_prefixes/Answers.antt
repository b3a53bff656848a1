use Rattle.std.proofs.Common.{[], ◌∷◌, ◌++◌, ◌∙◌, List, map, ap}
use Rattle.lsa_codec.specs.declared.address.Addr.{Addr}
use Rattle.lsa_codec.specs.declared.address.AreaId.{AreaId}
use Rattle.area_routes.proofs.AddsLemmas.{map_adds}
use Rattle.audit_places.specs.Places.{PlaceValue, several_networks}
use Rattle.link_report.proofs.PushedLemmas.{made_all, made_more}
use Rattle.audit_topology.proofs.networks.places_of_prefixes.Goals as goal

pub loop-group-preserved : goal.loop-group-preserved
loop-group-preserved g c =
    let group = c.group-item.result in
    let places = c.loop-group.places.items in
    made_more (map_adds (λ p. several_networks p.0 (map (λ n. n.1) p.1.items))) c.args.groups.now c.loop-group.group-index group places _
    c.loop-group-test.true c.group-item.is c.loop-group.invariant
    (c.in_ok-push.ensures.items
    ∙ ap (λ (p : PlaceValue). places ++ p ∷ [])
    (c.in_ok-place_of_prefix.ensures
    ∙ ap (λ (ns : List (AreaId × Addr)). several_networks group.0 (map (λ n. n.1) ns)) c.deref.ensures.value))

pub returns : goal.returns
returns g c =
    made_all (map_adds (λ p. several_networks p.0 (map (λ n. n.1) p.1.items))) c.args.groups.now c.loop-group.group-index c.loop-group.places.items
    c.loop-group-test.false c.loop-group.invariant
