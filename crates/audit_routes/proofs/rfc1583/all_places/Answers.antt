use Rattle.std.proofs.Common.{[], ◌++◌, ◌∙◌, List, ap}
use Rattle.std.specs.List.{flat_map}
use Rattle.lsa_codec.specs.declared.address.RouterId.{RouterId}
use Rattle.lsdb.specs.Slots.{lists_of}
use Rattle.area_routes.proofs.AddsLemmas.{flat_map_adds}
use Rattle.audit_places.specs.Places.{PlaceValue}
use Rattle.audit_routes.specs.Compatibility.{dependent_places}
use Rattle.audit_routes.specs.Ways.{WaysValue, ways_of}
use Rattle.audit_routes.proofs.Loops.{ended, one_more_at}
use Rattle.audit_routes.proofs.NoTrees.{no_trees}
use Rattle.audit_routes.proofs.rfc1583.all_places.Goals as goal

abbrev no_router : RouterId
no_router = record { 0 = 0 }

pub loop-router-init : goal.loop-router-init
loop-router-init g c = record { places = c.new-places.ensures.items; trees = no_trees (lists_of c.args.database.now) _ c.new-trees.ensures }

pub loop-router-preserved : goal.loop-router-preserved
loop-router-preserved g c =
    let db = lists_of c.args.database.now in
    let at : RouterId → List PlaceValue = λ router. dependent_places db (ways_of db router) in
    record {
      places = one_more_at (flat_map_adds at) [] c.deref-router-items.result.now c.loop-router.router-index no_router c.loop-router.places.items _
          c.loop-router-test.true c.loop-router.invariant.places
          (c.in_ok-push_dependent.ensures
          ∙ ap (λ (w : WaysValue). c.loop-router.places.items ++ dependent_places db w) c.in_ok-ways.ensures.ways);
      trees = c.of.ensures.trees;
    }

pub returns : goal.returns
returns g c =
    let db = lists_of c.args.database.now in
    let at : RouterId → List PlaceValue = λ router. dependent_places db (ways_of db router) in
    ended (flat_map_adds at) [] c.deref-router-items.result.now c.loop-router.router-index c.loop-router.places.items c.loop-router-test.false
    c.loop-router.invariant.places
    ∙ ap (λ (routers : List RouterId). flat_map at routers) (c.deref-router-items.ensures.value ∙ c.in_ok-attached.ensures)
