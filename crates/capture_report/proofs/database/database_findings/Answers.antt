use Rattle.std.proofs.Common.{List, ◌++◌, ap, map, sym, ◌∙◌}
use Rattle.std.specs.List.{flat_map}
use Rattle.findings.specs.declared.finding.Finding.{Finding}
use Rattle.capture_report.proofs.Parts.{flat_map-map}
use Rattle.capture_report.proofs.database.database_findings.Goals as goal

pub returns : goal.returns
returns g c =
    let joined =
    c.in_ok-joined.ensures ∙ ap (flat_map (λ part. part.items)) c.deref.ensures.value
    ∙ sym (flat_map-map (λ (part : List Finding). part) (λ part. part.items) c.in_ok-parts.parts.items) in
    record {
      first = c.in_ok-findings.findings.items;
      parts = map (λ part. part.items) c.in_ok-parts.parts.items;
      last = c.in_ok-findings_of_as.field-0.items;
      borders = c.in_ok-findings.ensures;
      areas = c.in_ok-parts.ensures;
      as_wide = c.in_ok-findings_of_as.ensures;
      whole = c.in_ok-append-2.ensures.items
          ∙ ap (λ (xs : List Finding). xs ++ c.in_ok-findings_of_as.field-0.items)
          (c.in_ok-append.ensures.items ∙ ap (λ (xs : List Finding). c.in_ok-findings.findings.items ++ xs) joined);
    }
