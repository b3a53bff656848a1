use Rattle.std.proofs.Common.{◌≡◌, map, take}
use Rattle.finding_json.specs.Findings.{found_json}
use Rattle.finding_json.proofs.finding.shown_findings.Given as goal

-- the findings so far
abbrev pub invariant-loop-finding : goal.invariant-loop-finding
invariant-loop-finding g l = map (λ finding. found_json finding.0.now) l.shown.items ≡ map found_json (take l.finding-index l.findings)
