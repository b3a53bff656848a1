use Rattle.std.proofs.Common.{◌≡◌, take}
use Rattle.std.specs.List.{flat_map}
use Rattle.lsdb.specs.Lists.{areas_of}
use Rattle.lsdb.specs.Slots.{lists_of}
use Rattle.capture_report.specs.Borders.{routers_in}
use Rattle.capture_report.proofs.borders.routers_that_pass.Given as goal

abbrev pub invariant-loop-i : goal.invariant-loop-i
invariant-loop-i g l = l.found.items ≡ flat_map (routers_in l.test (lists_of l.database)) (take l.i (areas_of (lists_of l.database)))
