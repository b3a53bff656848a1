use Rattle.std.proofs.Common.{◌++◌, List, ap, map, rules, subst, ◌∙◌}
use Rattle.std.specs.List.{filter_map}
use Rattle.findings.specs.declared.finding.Finding.{Finding}
use Rattle.findings.specs.declared.finding.Finding.TheVariants.{Nssa}
use Rattle.lsa_codec.specs.declared.address.AreaId.{AreaId}
use Rattle.lsa_codec.specs.Order.{area_cmp}
use Rattle.capture_report.specs.FileFindings.{empty_finding, reported_nssa}
use Rattle.capture_report.specs.Sets.{AreOnce}
use Rattle.capture_report.proofs.file.file_findings.Goals as goal

pub returns : goal.returns
returns g c =
    let added = c.in_ok-put_each.ensures Nssa (λ area one says. search rules) in
    record {
      nssas = c.in_ok-nssas.nssas.items;
      once = subst (λ (all : List AreaId). AreOnce area_cmp all c.in_ok-nssas.nssas.items)
          (c.deref-2.ensures.value ∙ c.in_ok-all.ensures ∙ ap (filter_map reported_nssa) c.deref.ensures.value) c.in_ok-nssas.ensures;
      reported = added ∙ (λ i. (c.in_ok-put_empty.ensures
          ∙ ap (λ (front : List Finding). front ++ empty_finding c.args.file.now) (c.in_ok-findings.ensures.items ∙ c.deref-3.ensures.value)) i
          ++ map Nssa (c.deref-4.ensures.value i));
    }
