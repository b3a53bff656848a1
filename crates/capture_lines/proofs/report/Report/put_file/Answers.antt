use Rattle.std.proofs.Common.{ℕ, List, subst, sym}
use Rattle.std.specs.String.{string_bytes}
use Rattle.capture_lines.proofs.Pairs.{adds}
use Rattle.capture_lines.proofs.report.Report.put_file.Goals as goal
use Rattle.capture_report.specs.FileFindings.{AreFileFindings}
use Rattle.capture_report.specs.FileLines.{IsLine}
use Rattle.findings.specs.declared.finding.Finding.{Finding}

pub returns : goal.returns
returns g c =
    let old = c.args.self.now in
    let new = c.put.new.self in
    adds c.put.result c.args.name.now c.args.file.now c.deref.result.now c.as_str.result.now (string_bytes old.files) (string_bytes c.push_str.new.self)
    (string_bytes new.files) (string_bytes old.notices) (string_bytes new.notices) (string_bytes old.warnings) (string_bytes new.warnings)
    c.put.ensures.files c.put.ensures.notices c.put.ensures.warnings c.in_ok-push_str.ensures.bytes
    (subst (λ (line : List ℕ). IsLine c.args.name.now c.args.file.now line) (sym c.as_str.ensures.value) c.in_ok-line.ensures)
    (subst (λ (findings : List Finding). AreFileFindings c.args.file.now findings) (sym c.deref.ensures.value) c.in_ok-findings.ensures)
