use Rattle.std.proofs.Common.{◌++◌, map, rules, ◌∙◌}
use Rattle.findings.specs.declared.finding.Finding.TheVariants.{BothKinds, NoKind}
use Rattle.capture_report.proofs.kinds.area_findings.Goals as goal

pub returns : goal.returns
returns g c =
    let first = c.in_ok-put_each.ensures BothKinds (λ area one says. search rules) in
    let second = c.in_ok-put_each-2.ensures NoKind (λ area one says. search rules) in
    record {
      both = c.in_ok-both.both.items;
      contradictory = c.in_ok-both.ensures;
      reported = second
          ∙ (λ i. (first ∙ (λ j. c.new-findings.ensures.items j ++ map BothKinds (c.deref.ensures.value j))) i
          ++ map NoKind ((c.deref-2.ensures.value ∙ c.in_ok-neither.ensures) i));
    }
