use Rattle.std.proofs.Common.{[], ◌++◌, ◌∙◌, List, ap}
use Rattle.std.specs.List.{flat_map}
use Rattle.lsa_codec.specs.Prefix.{Net}
use Rattle.lsa_codec.specs.declared.address.RouterId.{RouterId}
use Rattle.lsdb.specs.Slots.{lists_of}
use Rattle.area_routes.proofs.AddsLemmas.{flat_map_adds}
use Rattle.best_ways.specs.Routes.{nets}
use Rattle.best_ways.specs.Values.{RouteValue}
use Rattle.audit_routes.specs.Inside.{inside_nets}
use Rattle.audit_routes.specs.Ways.{WaysValue}
use Rattle.audit_routes.proofs.Loops.{ended, one_more_at}
use Rattle.audit_routes.proofs.NoTrees.{no_trees}
use Rattle.audit_routes.proofs.inside.all_inside_nets.Goals as goal

abbrev no_router : RouterId
no_router = record { 0 = 0 }

pub loop-router-init : goal.loop-router-init
loop-router-init g c = record { nets = c.new-nets.ensures.items; trees = no_trees (lists_of c.args.database.now) _ c.new-trees.ensures }

pub loop-router-preserved : goal.loop-router-preserved
loop-router-preserved g c = record {
  nets = one_more_at (flat_map_adds (inside_nets (lists_of c.args.database.now))) [] c.deref-router-items.result.now c.loop-router.router-index no_router
      c.loop-router.nets.items _ c.loop-router-test.true c.loop-router.invariant.nets
      (c.in_ok-append.ensures.items
      ∙ ap (λ (l : List Net). c.loop-router.nets.items ++ l)
      (c.in_ok-more.ensures.nets ∙ ap (λ (rs : List RouteValue). nets rs) (c.as_routes.ensures.routes ∙ c.routes.ensures)
      ∙ ap (λ (w : WaysValue). nets w.routes) c.in_ok-ways.ensures.ways));
  trees = c.of.ensures.trees;
}

pub returns : goal.returns
returns g c =
    let db = lists_of c.args.database.now in
    ended (flat_map_adds (inside_nets db)) [] c.deref-router-items.result.now c.loop-router.router-index c.loop-router.nets.items
    c.loop-router-test.false c.loop-router.invariant.nets
    ∙ ap (λ (routers : List RouterId). flat_map (inside_nets db) routers) (c.deref-router-items.ensures.value ∙ c.in_ok-attached.ensures)
