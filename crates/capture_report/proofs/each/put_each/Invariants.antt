use Rattle.std.proofs.Common.{◌≡◌, ◌++◌, map, take}
use Rattle.findings.specs.declared.finding.Finding.{Finding}
use Rattle.capture_report.proofs.each.put_each.Given as goal

abbrev pub invariant-loop-item : goal.invariant-loop-item
invariant-loop-item g l =
    (made : g.row.T.Denot → Finding) → ((item : g.row.T.Denot) (one : Finding) → goal.F-post g l.finding item one → one ≡ made item)
    → l.findings.items ≡ l.fn.findings.items ++ map made (take l.item-index l.items)
