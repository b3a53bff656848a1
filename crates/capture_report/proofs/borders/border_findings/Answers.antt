use Rattle.std.proofs.Common.{◌++◌, map, rules, ◌∙◌}
use Rattle.capture_report.specs.Borders.{abr_finding, unlinked_finding}
use Rattle.capture_report.proofs.borders.border_findings.Goals as goal

pub returns : goal.returns
returns g c = record {
  abrs = c.in_ok-abrs.abrs.items;
  unlinked = c.in_ok-unlinked.unlinked.items;
  no_router_lsa = c.in_ok-abrs.ensures;
  no_links = c.in_ok-unlinked.ensures;
  whole =
      let first = c.in_ok-put_each.ensures abr_finding (λ id one says. search rules) in
      let second = c.in_ok-put_each-2.ensures unlinked_finding (λ id one says. search rules) in
      second
      ∙ (λ i. (first ∙ (λ j. c.in_ok-findings.ensures j ++ map abr_finding (c.deref.ensures.value j))) i
      ++ map unlinked_finding (c.deref-2.ensures.value i));
}
