use Rattle.std.proofs.Common.{[], ◌++◌, ◌∙◌, ◌≤◌, List, length, map, sym, ap, arith}
use Rattle.std.specs.List.{flat_map}
use Rattle.std.proofs.lemmas.Option.{get_or_from_slice_get, slice_get_within}
use Rattle.lsa_codec.specs.declared.address.RouterId.{RouterId}
use Rattle.lsdb.specs.Lists.{AreaHead, areas_of}
use Rattle.lsdb.specs.Slots.{lists_of}
use Rattle.area_routes.proofs.AddsLemmas.{flat_map_adds}
use Rattle.audit_routes.specs.Missing.{missing_among, missing_in}
use Rattle.audit_routes.specs.Ways.{WaysValue, ways_of}
use Rattle.audit_routes.proofs.Loops.{ended, one_more}
use Rattle.audit_routes.proofs.missing.missing_places.Goals as goal

pub loop-i-preserved : goal.loop-i-preserved
loop-i-preserved g c =
    let db = lists_of c.args.database.now in
    let head : AreaHead = record { id = c.area.result.0.0; is_stub = c.area.result.1 } in
    let ways = c.in_ok-routers.routers.items in
    one_more (flat_map_adds (λ (area : AreaHead). flat_map (missing_in db area) ways)) [] (areas_of db) c.loop-i.i head c.loop-i.places.items _
    (slice_get_within (areas_of db) c.loop-i.i head c.area.ensures) (sym (get_or_from_slice_get (areas_of db) c.loop-i.i head head c.area.ensures))
    c.loop-i.invariant
    (c.in_ok-push_area.ensures ∙ ap (λ (ws : List WaysValue). c.loop-i.places.items ++ flat_map (missing_in db head) ws) c.deref.ensures.value)

pub returns : goal.returns
returns g c =
    let db = lists_of c.args.database.now in
    let past : length (areas_of db) ≤ c.loop-i.i = omega (arith, c.area_count-i-end.ensures, c.loop-i-test.false) in
    ended (flat_map_adds (λ (area : AreaHead). flat_map (missing_in db area) c.in_ok-routers.routers.items)) [] (areas_of db) c.loop-i.i c.loop-i.places.items
    past c.loop-i.invariant
    ∙ ap (λ (ws : List WaysValue). missing_among db ws (areas_of db))
    (c.in_ok-routers.ensures ∙ ap (λ (ids : List RouterId). map (ways_of db) ids) (c.as_slice.ensures ∙ c.in_ok-borders.ensures))
