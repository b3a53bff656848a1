use Rattle.std.proofs.Common.{◌++◌, map, rules, ◌∙◌}
use Rattle.lsa_instances.specs.declared.place.Scope.TheVariants as scopes
use Rattle.lsdb.specs.Lists.{lsas_of}
use Rattle.lsdb.specs.Slots.{lists_of}
use Rattle.lsdb.specs.declared.section.Section.TheVariants.{AsWide}
use Rattle.capture_report.specs.DatabaseFindings.{asbr_finding, externals_finding}
use Rattle.capture_report.specs.LeftOut.{all_left_out}
use Rattle.capture_report.proofs.database.findings_of_as.Goals as goal

pub returns : goal.returns
returns g c =
    let lsas = lsas_of AsWide (lists_of c.args.database.now) in
    let first = c.in_ok-put_each.ensures asbr_finding (λ id one says. search rules) in
    let second = c.in_ok-put_each-2.ensures externals_finding (λ id one says. search rules) in
    record {
      routers = c.in_ok-routers.routers.items;
      originators = c.in_ok-originators.originators.items;
      no_router_lsa = c.in_ok-routers.ensures;
      no_external = c.in_ok-originators.ensures;
      whole = c.in_ok-put_all_left_out.ensures
          ∙ (λ i. (second ∙ (λ j. (first ∙ (λ k. c.new-findings.ensures.items k ++ map asbr_finding (c.deref.ensures.value k))) j
          ++ map externals_finding (c.deref-2.ensures.value j))) i ++ all_left_out scopes.AsWide lsas);
    }
