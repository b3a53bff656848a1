use Rattle.std.proofs.Common.{◌≡◌, ◌-◌, ◌^◌, ◌≤◌, length}
use Rattle.std.specs.Prelude.{All, Contains}
use Rattle.route_report.specs.steps.Sure.{AreSure, IsSettled}
use Rattle.route_report.proofs.passing.is_passed.Given as goal

-- from those so far each walk passes the router, which is one of them; where none was added, there are no more
abbrev pub invariant-passes : goal.invariant-passes
invariant-passes g l = record {
  sure : AreSure l.graph l.fn.router l.sure.keys;
  has : Contains l.sure.keys l.fn.router;
  more : l.count ≤ length l.sure.keys;
  settled : length l.sure.keys ≡ l.count → All (IsSettled l.graph l.sure.keys) l.routers;
}

-- those that may still be added
abbrev pub decreases-passes : goal.decreases-passes
decreases-passes g l = 2 ^ 63 - l.count
