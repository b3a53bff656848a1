use Rattle.std.proofs.Common.{Some, sym, ap, subst, ◌∙◌}
use Rattle.std.specs.BTreeMap.{get, Updates}
use Rattle.std.proofs.lemmas.Result.{on_ok_weaker}
use Rattle.lsa_codec.specs.Prefix.{Net}
use Rattle.lsa_codec.specs.Views.{net_of_lsa}
use Rattle.area_graph.specs.Area.{is_network_lsa}
use Rattle.area_routes.specs.declared.networks.Standing.{Standing}
use Rattle.lsa_codec.specs.Order.{prefix_cmp}
use Rattle.area_routes.specs.steps.Standings.{is_after, standing_of}
use Rattle.area_routes.proofs.Beaten.{standings_stay, standings_rise, prefix_of_network}
use Rattle.area_routes.proofs.networks.compare.Goals as goal

pub returns-then-is_after : goal.returns-then-is_after
returns-then-is_after g c =
    let r = c.args.reached.now in
    let old = c.args.standings.now in
    let is = prefix_of_network (is_network_lsa r.lsa) c.in-Some.net (net_of_lsa r.lsa) c.in-Some.ensures in
    λ ns are. standings_stay ns r old are is.0
    (ap (λ (n : Net). is_after (get prefix_cmp old n) (standing_of r)) (sym is.1)
    ∙ ap (λ (s : Standing). is_after (get prefix_cmp old c.in-Some.net) s) (sym c.standing_of-standing.ensures)
    ∙ sym c.is_after.ensures ∙ c.if-is_after.true)

pub returns : goal.returns
returns g c =
    let r = c.args.reached.now in
    let old = c.args.standings.now in
    let new = c.set_standing.new.standings in
    let is = prefix_of_network (is_network_lsa r.lsa) c.in-Some.net (net_of_lsa r.lsa) c.in-Some.ensures in
    on_ok_weaker c.set_standing.result
    (λ updates ns are. standings_rise ns r old are is.0 new
    (ap (λ (n : Net). is_after (get prefix_cmp old n) (standing_of r)) (sym is.1)
    ∙ ap (λ (s : Standing). is_after (get prefix_cmp old c.in-Some.net) s) (sym c.standing_of-standing.ensures)
    ∙ sym c.is_after.ensures ∙ c.if-is_after.false)
    (subst (λ (n : Net). Updates prefix_cmp old new n (Some (standing_of r))) is.1
    (subst (λ (s : Standing). Updates prefix_cmp old new c.in-Some.net (Some s)) c.standing_of-standing.ensures updates)))
    c.set_standing.ensures
