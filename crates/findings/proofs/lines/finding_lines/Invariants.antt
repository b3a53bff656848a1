use Rattle.std.proofs.Common.{◌≡◌, take}
use Rattle.std.specs.String.{string_bytes}
use Rattle.findings.specs.Lines.{finding_lines}
use Rattle.findings.proofs.lines.finding_lines.Given as goal

abbrev pub invariant-loop-finding : goal.invariant-loop-finding
invariant-loop-finding g l = string_bytes l.lines ≡ finding_lines l.name (take l.finding-index l.findings)
