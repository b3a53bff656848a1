use Rattle.std.proofs.Common.{List, ap, ◌∙◌}
use Rattle.std.proofs.lemmas.List.{take_all}
use Rattle.area_routes.specs.declared.stub_links.StubLink.{StubLink}
use Rattle.area_routes.specs.steps.Growing.{with_offers}
use Rattle.area_routes.specs.steps.StubCandidates.{offer_over, offers_over}
use Rattle.area_routes.proofs.AddsLemmas.{filter_map_adds}
use Rattle.area_routes.proofs.Gathering.{offers_more}
use Rattle.area_routes.proofs.stubs.add_stubs.Goals as goal

pub loop-link-preserved : goal.loop-link-preserved
loop-link-preserved g c =
    offers_more (filter_map_adds (offer_over c.args.root c.args.tree.now.distances c.args.hops.now)) c.args.links.now c.loop-link.link-index c.link-item.result
    c.loop-link-test.true c.link-item.is c.args.ways.now c.loop-link.ways c.add_stub.new.ways c.loop-link.invariant c.in_ok-add_stub.ensures

pub returns : goal.returns
returns g c =
    c.loop-link.invariant
    ∙ ap (λ (links : List StubLink). with_offers c.args.ways.now (offers_over c.args.root c.args.tree.now.distances c.args.hops.now links))
    (take_all c.loop-link.link-index c.args.links.now c.loop-link-test.false)
