use Rattle.std.proofs.Common.{take}
use Rattle.capture_report.specs.Newer.{shown_of}
use Rattle.capture_report.specs.steps.Newest.{AreNewest}
use Rattle.capture_report.proofs.newer.newest_shown.Given as goal

abbrev pub invariant-loop-file : goal.invariant-loop-file
invariant-loop-file g l = AreNewest (shown_of (take l.file-index l.files)) l.newest
