use Rattle.std.proofs.Common.{length, take}
use Rattle.std.specs.String.{string_bytes}
use Rattle.capture_lines.specs.Reports.{HaveFileTexts}
use Rattle.capture_lines.proofs.Pairs.{pairs}
use Rattle.capture_lines.proofs.report.Report.of_files.Given as goal

abbrev pub invariant-loop-name : goal.invariant-loop-name
invariant-loop-name g l =
    HaveFileTexts (take (length l.yielded) (pairs l.names l.files)) (string_bytes l.report.files) (string_bytes l.report.notices)
    (string_bytes l.report.warnings)
