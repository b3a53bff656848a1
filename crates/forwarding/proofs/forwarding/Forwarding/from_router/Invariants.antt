use Rattle.std.proofs.Common.{◌-◌, ◌^◌, length}
use Rattle.lsdb.specs.Slots.{lists_of}
use Rattle.forwarding.specs.steps.Bases.{IsBasisOf}
use Rattle.forwarding.specs.steps.OnTheWay.{IsPart}
use Rattle.forwarding.proofs.forwarding.Forwarding.from_router.Given as goal

-- the routers so far, their graph, and what their tables were calculated from
abbrev pub invariant-routers : goal.invariant-routers
invariant-routers g l = record {
  part : IsPart (lists_of l.database) l.fn.address l.routers.items l.graph;
  basis : IsBasisOf (lists_of l.database) l.basis;
}

-- the routers that may still come
abbrev pub decreases-routers : goal.decreases-routers
decreases-routers g l = 2 ^ 64 - length l.routers.items
