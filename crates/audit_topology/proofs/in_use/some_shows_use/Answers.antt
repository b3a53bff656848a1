use Rattle.std.proofs.Common.{◌∙◌, sym}
use Rattle.std.specs.Prelude.{◌||◌}
use Rattle.std.specs.List.{list_any}
use Rattle.audit_areas.specs.Areas.{is_other}
use Rattle.audit_topology.specs.Networks.{leads_elsewhere}
use Rattle.audit_topology.proofs.Searching.{none_more, none_passes, some_passes}
use Rattle.audit_topology.proofs.in_use.some_shows_use.Goals as goal

pub returns-then-branch : goal.returns-then-branch
returns-then-branch g c =
    some_passes (λ router. list_any (is_other router) c.args.ends.now || leads_elsewhere c.args.areas.now c.args.network router) c.args.ends.now
    c.loop-router.router-index _ c.loop-router-test.true (sym c.in_ok-shows_use.ensures ∙ c.if-branch.true)

pub loop-router-preserved : goal.loop-router-preserved
loop-router-preserved g c =
    none_more (λ router. list_any (is_other router) c.args.ends.now || leads_elsewhere c.args.areas.now c.args.network router) c.args.ends.now
    c.loop-router.router-index _ c.loop-router-test.true c.loop-router.invariant (sym c.in_ok-shows_use.ensures ∙ c.if-branch.false)

pub returns : goal.returns
returns g c =
    none_passes (λ router. list_any (is_other router) c.args.ends.now || leads_elsewhere c.args.areas.now c.args.network router) c.args.ends.now
    c.loop-router.router-index c.loop-router-test.false c.loop-router.invariant
