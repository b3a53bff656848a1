use Rattle.std.proofs.Common.{ℕ, ◌<◌, ◌≤◌, [], ◌∷◌, ◌++◌, List, Option, length, ap, ◌∙◌, arith}
use Rattle.interfaces.specs.declared.interface.Interface.{Interface}
use Rattle.lsdb.specs.Lists.{Lists}
use Rattle.lsa_codec.specs.declared.address.AreaId.{AreaId}
use Rattle.link_report.specs.declared.ages.Ages.TheVariants.{Live}
use Rattle.link_report.specs.AnyAge.{interfaces_by}
use Rattle.link_report.specs.Links.{LinkValue, interface_numbered, link_value, values_of}
use Rattle.link_report.proofs.NumberedLemmas.{numbered_all, numbered_more}
use Rattle.link_report.proofs.Takings.{takes_all}
use Rattle.link_report.proofs.link_line.push_links.Goals as goal

pub loop-number-preserved : goal.loop-number-preserved
loop-number-preserved g c =
    let all = c.in_ok-all.all.items in
    let n = c.loop-number.number in
    let area = c.args.area.now in
    let router = c.args.router in
    let own = c.index-own.result.now in
    let one : ℕ × Interface → LinkValue = λ p. link_value Live area router p.0 (interface_numbered p.0 all) p.1 in
    let below : n < length all = omega (arith, c.in_ok-all.all.ok.0, c.len-number-end.ensures, c.loop-number-test.true) in
    numbered_more (takes_all one) all n n own c.loop-number.lines.items _ _ below c.loop-number.invariant
    (c.in_ok-push.ensures.items
    ∙ ap (λ (v : LinkValue). c.loop-number.lines.items ++ v ∷ [])
    (c.in_ok-link_line.ensures
    ∙ ap (λ (o : Option Interface). link_value Live area router n o own)
    (c.interface_numbered-before.ensures ∙ ap (interface_numbered n) c.deref.ensures.value)
    ∙ ap (link_value Live area router n (interface_numbered n all)) c.index-own.ensures))

pub returns : goal.returns
returns g c =
    let all = c.in_ok-all.all.items in
    let n = c.loop-number.number in
    let area = c.args.area.now in
    let router = c.args.router in
    let start = c.args.lines.now.items in
    let one : ℕ × Interface → LinkValue = λ p. link_value Live area router p.0 (interface_numbered p.0 all) p.1 in
    let past : length all ≤ n = omega (arith, c.in_ok-all.all.ok.0, c.len-number-end.ensures, c.loop-number-test.false) in
    numbered_all (takes_all one) all n n c.loop-number.lines.items (start ++ values_of router area all) past c.loop-number.invariant
    ∙ ap (λ (l : List Interface). start ++ values_of router area l)
    (c.in_ok-all.ensures ∙ ap (λ (db : Lists). interfaces_by Live db c.area.result router) c.database.ensures
    ∙ ap (λ (id : AreaId). interfaces_by Live area.db id router) c.area.ensures)
