use Rattle.std.proofs.Common.{◌∙◌, sym, ap}
use Rattle.audit_topology.specs.Networks.{leads_elsewhere_in}
use Rattle.audit_topology.proofs.Searching.{none_more, none_passes, some_passes}
use Rattle.audit_topology.proofs.in_use.leads_elsewhere.Goals as goal

pub returns-then-branch : goal.returns-then-branch
returns-then-branch g c =
    let test = leads_elsewhere_in c.args.router c.args.network in
    some_passes test c.args.areas.now c.loop-area.area-index c.area-item.result c.loop-area-test.true
    (ap test (sym c.area-item.is) ∙ sym c.in_ok-leads_elsewhere_in.ensures ∙ c.if-branch.true)

pub loop-area-preserved : goal.loop-area-preserved
loop-area-preserved g c =
    let test = leads_elsewhere_in c.args.router c.args.network in
    none_more test c.args.areas.now c.loop-area.area-index c.area-item.result c.loop-area-test.true c.loop-area.invariant
    (ap test (sym c.area-item.is) ∙ sym c.in_ok-leads_elsewhere_in.ensures ∙ c.if-branch.false)

pub returns : goal.returns
returns g c =
    none_passes (leads_elsewhere_in c.args.router c.args.network) c.args.areas.now c.loop-area.area-index c.loop-area-test.false c.loop-area.invariant
