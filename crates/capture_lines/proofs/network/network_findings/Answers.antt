use Rattle.std.proofs.Common.{List, ◌++◌, ap, ◌∙◌}
use Rattle.findings.specs.declared.finding.Finding.{Finding}
use Rattle.capture_lines.proofs.network.network_findings.Goals as goal

pub returns : goal.returns
returns g c = record {
  areas = c.in_ok-found.found.items;
  headers = c.in_ok-header_findings.field-0.items;
  lacking = c.in_ok-database_findings.field-0.items;
  about_areas = c.in_ok-found.ensures;
  about_headers = c.in_ok-header_findings.ensures;
  about_database = c.in_ok-database_findings.ensures;
  whole = c.in_ok-append-3.ensures.items
      ∙ (λ i. ((c.in_ok-append-2.ensures.items
      ∙ ap (λ (xs : List Finding). xs ++ c.in_ok-database_findings.field-0.items) c.in_ok-append.ensures.items) i)
      ++ c.in_ok-summary_findings.ensures i);
}
