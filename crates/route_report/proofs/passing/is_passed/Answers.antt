use Rattle.std.proofs.Common.{◌≡◌, List, [], length, ap, ◌∙◌, arith}
use Rattle.std.specs.BTreeSet.{insert_key}
use Rattle.lsa_codec.specs.Order.{router_cmp}
use Rattle.lsa_codec.specs.declared.address.RouterId.{RouterId}
use Rattle.route_report.proofs.SureSteps.{has_first, passed_where, sure_first}
use Rattle.route_report.proofs.passing.is_passed.Goals as goal

pub passes-init : goal.passes-init
passes-init g c =
    let keys = c.insert.new.self.keys in
    let is : keys ≡ insert_key router_cmp [] c.args.router =
    c.in_ok-insert.ensures.keys ∙ ap (λ (ks : List RouterId). insert_key router_cmp ks c.args.router) c.new-sure.ensures.empty in
    let one : length keys ≡ 1 = ap (λ (ks : List RouterId). length ks) is in
    record {
      sure = sure_first c.args.graph.now c.args.router keys is;
      has = has_first c.args.graph.now c.args.router keys is;
      more = omega arith;
      settled = λ same. absurd (omega arith);
    }

pub passes-preserved : goal.passes-preserved
passes-preserved g c = record {
  sure = c.in_ok-add_each.ensures.sure c.args.router c.passes.invariant.sure;
  has = c.in_ok-add_each.ensures.kept c.args.router c.passes.invariant.has;
  more = omega (arith, c.in_ok-add_each.ensures.more);
  settled = λ same. (c.in_ok-add_each.ensures.settled (omega arith)).1;
}

pub passes-smaller : goal.passes-smaller
passes-smaller g c = omega (arith, c.passes.invariant.more)

pub returns : goal.returns
returns g c =
    let same : length c.passes.sure.keys ≡ c.passes.count = omega arith in
    passed_where c.args.graph.now c.args.router c.args.start c.args.routers.now c.passes.sure.keys c.requires
    (c.passes.invariant.settled same) c.passes.invariant.has c.contains.result c.contains.ensures c.passes.invariant.sure
