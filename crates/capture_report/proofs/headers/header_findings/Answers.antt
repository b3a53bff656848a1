use Rattle.std.proofs.Common.{◌++◌, map, rules, ◌∙◌}
use Rattle.findings.specs.declared.finding.Finding.TheVariants.{Newer, Unseen}
use Rattle.capture_report.proofs.headers.header_findings.Goals as goal

pub returns : goal.returns
returns g c =
    let first = c.in_ok-put_each.ensures Unseen (λ lsa one says. search rules) in
    let second = c.in_ok-put_each-2.ensures Newer (λ lsa one says. search rules) in
    record {
      unseen = c.in_ok-unseen.unseen.items;
      newer = c.in_ok-newer.newer.items;
      are_unseen = c.in_ok-unseen.ensures;
      are_newer = c.in_ok-newer.ensures;
      reported = second
          ∙ (λ i. (first ∙ (λ j. c.new-findings.ensures.items j ++ map Unseen (c.deref.ensures.value j))) i ++ map Newer (c.deref-2.ensures.value i));
    }
