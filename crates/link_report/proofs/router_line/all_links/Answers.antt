use Rattle.std.proofs.Common.{◌++◌, ◌∙◌, List, ap}
use Rattle.lsa_codec.specs.declared.link.Link.{Link}
use Rattle.lsa_codec.specs.Links.{links_of}
use Rattle.area_routes.proofs.AddsLemmas.{flat_map_adds}
use Rattle.link_report.proofs.PushedLemmas.{made_all, made_more}
use Rattle.link_report.proofs.router_line.all_links.Goals as goal

pub loop-lsa-preserved : goal.loop-lsa-preserved
loop-lsa-preserved g c =
    made_more (flat_map_adds links_of) c.args.lsas.now c.loop-lsa.lsa-index c.lsa-item.result c.loop-lsa.links.items _ c.loop-lsa-test.true c.lsa-item.is
    c.loop-lsa.invariant (c.in_ok-append.ensures.items ∙ ap (λ (l : List Link). c.loop-lsa.links.items ++ l) c.in_ok-more.ensures)

pub returns : goal.returns
returns g c =
    made_all (flat_map_adds links_of) c.args.lsas.now c.loop-lsa.lsa-index c.loop-lsa.links.items c.loop-lsa-test.false c.loop-lsa.invariant
