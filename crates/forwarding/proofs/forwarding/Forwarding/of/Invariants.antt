use Rattle.std.proofs.Common.{◌≡◌, map, take}
use Rattle.lsdb.specs.Slots.{lists_of}
use Rattle.forwarding.specs.Matches.{router_in}
use Rattle.forwarding.specs.steps.Bases.{IsBasisOf}
use Rattle.forwarding.proofs.forwarding.Forwarding.of.Given as goal

-- the routers so far, and what their tables were calculated from
abbrev pub invariant-loop-router : goal.invariant-loop-router
invariant-loop-router g l = record {
  routers : l.routers.items ≡ map (router_in (lists_of l.database)) (take l.router-index l.router-items);
  basis : IsBasisOf (lists_of l.database) l.basis;
}
