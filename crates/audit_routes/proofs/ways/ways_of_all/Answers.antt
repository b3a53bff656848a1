use Rattle.std.proofs.Common.{[], ◌∷◌, ◌++◌, ◌∙◌, ap}
use Rattle.lsa_codec.specs.declared.address.RouterId.{RouterId}
use Rattle.lsdb.specs.Slots.{lists_of}
use Rattle.area_routes.proofs.AddsLemmas.{map_adds}
use Rattle.audit_routes.specs.Ways.{WaysValue, ways_of}
use Rattle.audit_routes.proofs.Loops.{ended, one_more_at}
use Rattle.audit_routes.proofs.NoTrees.{no_trees}
use Rattle.audit_routes.proofs.ways.ways_of_all.Goals as goal

abbrev no_router : RouterId
no_router = record { 0 = 0 }

pub loop-router-init : goal.loop-router-init
loop-router-init g c = record { ways = c.new-ways.ensures.items; trees = no_trees (lists_of c.args.database.now) _ c.new-trees.ensures }

pub loop-router-preserved : goal.loop-router-preserved
loop-router-preserved g c = record {
  ways = one_more_at (map_adds (ways_of (lists_of c.args.database.now))) [] c.args.routers.now c.loop-router.router-index no_router c.loop-router.ways.items _
      c.loop-router-test.true c.loop-router.invariant.ways
      (c.in_ok-push.ensures.items ∙ ap (λ (w : WaysValue). c.loop-router.ways.items ++ w ∷ []) c.in_ok-of.ensures.ways);
  trees = c.of.ensures.trees;
}

pub returns : goal.returns
returns g c =
    ended (map_adds (ways_of (lists_of c.args.database.now))) [] c.args.routers.now c.loop-router.router-index c.loop-router.ways.items
    c.loop-router-test.false c.loop-router.invariant.ways
