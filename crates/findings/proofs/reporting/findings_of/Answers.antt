use Rattle.std.proofs.Common.{List, ◌++◌, ap, ◌∙◌}
use Rattle.findings.specs.declared.finding.Finding.{Finding}
use Rattle.findings.specs.Reporting.{findings_of, frame_findings, all_unread}
use Rattle.findings.proofs.reporting.findings_of.Goals as goal

pub returns : goal.returns
unfolding findings_of
returns g c =
    c.in_ok-put_all_unread.ensures
    ∙ ap (λ (front : List Finding). front ++ all_unread c.args.parts.now)
    (c.in_ok-append.ensures.items
    ∙ (λ i. (c.in_ok-findings.ensures ∙ ap frame_findings (c.deref.ensures.value ∙ c.in_ok-warnings.ensures)) i ++ c.in_ok-single_findings.ensures i))
