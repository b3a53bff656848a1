use Rattle.std.proofs.Common.{◌++◌, map, rules, ◌∙◌}
use Rattle.lsa_instances.specs.declared.place.Scope.TheVariants as scopes
use Rattle.lsdb.specs.Lists.{lsas_of}
use Rattle.lsdb.specs.Slots.{lists_of}
use Rattle.lsdb.specs.declared.section.Section.TheVariants.{Area}
use Rattle.capture_report.specs.DatabaseFindings.{network_finding, router_finding}
use Rattle.capture_report.specs.LeftOut.{all_left_out}
use Rattle.capture_report.proofs.database.findings_of_area.Goals as goal

pub returns : goal.returns
returns g c =
    let area = c.args.area in
    let lsas = lsas_of (Area area) (lists_of c.args.database.now) in
    let first = c.in_ok-put_each.ensures (router_finding area) (λ id one says. search rules) in
    let second = c.in_ok-put_each-2.ensures (network_finding area) (λ id one says. search rules) in
    record {
      routers = c.in_ok-routers.routers.items;
      networks = c.in_ok-networks.networks.items;
      no_router_lsa = c.in_ok-routers.ensures;
      no_network_lsa = c.in_ok-networks.ensures;
      whole = c.in_ok-put_all_left_out.ensures
          ∙ (λ i. (second ∙ (λ j. (first ∙ (λ k. c.new-findings.ensures.items k ++ map (router_finding area) (c.deref.ensures.value k))) j
          ++ map (network_finding area) (c.deref-2.ensures.value j))) i ++ all_left_out (scopes.Area area) lsas);
    }
