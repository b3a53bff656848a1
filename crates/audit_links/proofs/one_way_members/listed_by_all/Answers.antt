use Rattle.std.proofs.Common.{◌++◌, ◌∙◌, List, ap}
use Rattle.area_routes.proofs.AddsLemmas.{flat_map_adds}
use Rattle.link_report.proofs.PushedLemmas.{made_all, made_more}
use Rattle.audit_links.specs.declared.one_way_members.ListedRouter.{ListedRouter}
use Rattle.audit_links.specs.OneWay.{listed_alone}
use Rattle.audit_links.proofs.one_way_members.listed_by_all.Goals as goal

pub loop-vertex-preserved : goal.loop-vertex-preserved
loop-vertex-preserved g c =
    made_more (flat_map_adds (listed_alone c.args.area.now)) c.args.lsas.now c.loop-vertex.vertex-index c.vertex-item.result c.loop-vertex.listed.items _
    c.loop-vertex-test.true c.vertex-item.is c.loop-vertex.invariant
    (c.in_ok-append.ensures.items
    ∙ ap (λ (l : List ListedRouter). c.loop-vertex.listed.items ++ l) (c.in_ok-more.ensures ∙ ap (listed_alone c.args.area.now) c.lsa.ensures))

pub returns : goal.returns
returns g c =
    made_all (flat_map_adds (listed_alone c.args.area.now)) c.args.lsas.now c.loop-vertex.vertex-index c.loop-vertex.listed.items
    c.loop-vertex-test.false c.loop-vertex.invariant
