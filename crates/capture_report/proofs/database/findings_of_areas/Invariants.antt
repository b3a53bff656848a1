use Rattle.std.proofs.Common.{take, map}
use Rattle.std.specs.List.{AllZip}
use Rattle.lsdb.specs.Lists.{areas_of}
use Rattle.lsdb.specs.Slots.{lists_of}
use Rattle.capture_report.specs.DatabaseFindings.{IsPartOf}
use Rattle.capture_report.proofs.database.findings_of_areas.Given as goal

abbrev pub invariant-loop-i : goal.invariant-loop-i
invariant-loop-i g l = AllZip (IsPartOf (lists_of l.database)) (take l.i (areas_of (lists_of l.database))) (map (λ part. part.items) l.parts.items)
