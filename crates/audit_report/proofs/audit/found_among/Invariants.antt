use Rattle.std.proofs.Common.{◌≡◌, take}
use Rattle.lsdb.specs.Slots.{lists_of}
use Rattle.audit_report.specs.Findings.{found_among}
use Rattle.audit_report.proofs.audit.found_among.Given as goal

-- the findings of the kinds so far
abbrev pub invariant-loop-kind : goal.invariant-loop-kind
invariant-loop-kind g l = l.findings.items ≡ found_among (lists_of l.loaded) (lists_of l.now) (take l.kind-index l.kinds)
