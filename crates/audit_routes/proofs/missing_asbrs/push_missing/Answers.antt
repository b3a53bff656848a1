use Rattle.std.proofs.Common.{[], ◌++◌, ◌∙◌, Option, ap}
use Rattle.std.specs.List.{cons_option}
use Rattle.lsa_codec.specs.declared.address.RouterId.{RouterId}
use Rattle.area_routes.proofs.AddsLemmas.{filter_map_adds}
use Rattle.audit_places.specs.Places.{PlaceValue}
use Rattle.audit_routes.specs.Missing.{missing_asbr}
use Rattle.audit_routes.proofs.Loops.{begun, ended, one_more_at}
use Rattle.audit_routes.proofs.missing_asbrs.push_missing.Goals as goal

abbrev no_router : RouterId
no_router = record { 0 = 0 }

pub loop-asbr-init : goal.loop-asbr-init
loop-asbr-init g c =
    let w = c.args.ways.now in
    begun (filter_map_adds (missing_asbr c.args.area w.router c.args.announced.now w.entries)) c.args.places.now.items c.args.asbrs.now

pub loop-asbr-preserved : goal.loop-asbr-preserved
loop-asbr-preserved g c =
    let w = c.args.ways.now in
    one_more_at (filter_map_adds (missing_asbr c.args.area w.router c.args.announced.now w.entries)) c.args.places.now.items c.args.asbrs.now
    c.loop-asbr.asbr-index no_router c.loop-asbr.places.items _ c.loop-asbr-test.true c.loop-asbr.invariant
    (c.in_ok-push_some.ensures ∙ ap (λ (o : Option PlaceValue). c.loop-asbr.places.items ++ cons_option o []) c.missing_asbr.ensures)

pub returns : goal.returns
returns g c =
    let w = c.args.ways.now in
    ended (filter_map_adds (missing_asbr c.args.area w.router c.args.announced.now w.entries)) c.args.places.now.items c.args.asbrs.now
    c.loop-asbr.asbr-index c.loop-asbr.places.items c.loop-asbr-test.false c.loop-asbr.invariant
