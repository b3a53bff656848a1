use Rattle.std.proofs.Common.{◌≡◌, List, [], ap, map, sym, subst, ◌∙◌}
use Rattle.lsa_codec.specs.declared.address.RouterId.{RouterId}
use Rattle.lsdb.specs.declared.section.Section.TheVariants.{Area}
use Rattle.lsdb.specs.Lists.{lsas_of}
use Rattle.lsdb.specs.Slots.{lists_of}
use Rattle.area_routes.specs.declared.stub_links.StubLink.{StubLink}
use Rattle.area_routes.specs.Entries.{area_entries}
use Rattle.area_routes.specs.Reached.{ReachedValue}
use Rattle.area_routes.specs.StubLinks.{AreStubLinksOf}
use Rattle.area_routes.specs.Values.{AreaResultValue, OfferValue}
use Rattle.area_routes.specs.steps.Growing.{with_entries}
use Rattle.area_routes.specs.steps.OneArea.{offered, result_by}
use Rattle.area_routes.proofs.AreaOffers.{offers_at, result_of_area, within_distances, within_hops}
use Rattle.area_routes.proofs.Reaching.{fits, one_root, reached_from-area}
use Rattle.area_routes.proofs.area_result.AreaResult.build.Goals as goal

pub reached_in-requires : goal.reached_in-requires
reached_in-requires g c =
    fits (lsas_of (Area c.args.area) (lists_of c.args.database.now)) c.requires.tree.0 c.args.graph.now c.args.tree.now c.args.hops.now c.requires.tree.1

pub routes_of-requires-clause-tree : goal.routes_of-requires-clause-tree
routes_of-requires-clause-tree g c =
    within_distances (lsas_of (Area c.args.area) (lists_of c.args.database.now)) c.requires.tree.0 c.args.graph.now c.args.tree.now c.args.hops.now
    c.requires.tree.1 c.as_slice.result.now
    (subst (λ (links : List StubLink). AreStubLinksOf (lsas_of (Area c.args.area) (lists_of c.args.database.now)) links) (sym c.as_slice.ensures) c.requires.stubs)

pub routes_of-requires-clause-hops : goal.routes_of-requires-clause-hops
routes_of-requires-clause-hops g c =
    within_hops (lsas_of (Area c.args.area) (lists_of c.args.database.now)) c.requires.tree.0 c.args.graph.now c.args.tree.now c.args.hops.now
    c.requires.tree.1 c.as_slice.result.now
    (subst (λ (links : List StubLink). AreStubLinksOf (lsas_of (Area c.args.area) (lists_of c.args.database.now)) links) (sym c.as_slice.ensures) c.requires.stubs)

pub returns : goal.returns
returns g c = λ root are.
    let lsas = lsas_of (Area c.args.area) (lists_of c.args.database.now) in
    let t = c.args.graph.now in
    let tree = c.args.tree.now in
    let links = c.as_slice.result.now in
    let same : c.in-Router.root ≡ root =
    one_root t.vertices c.root.result tree.root c.in-Router.root root c.root.ensures c.in-Router.ensures.vertex are.of_graph.root_at in
    let of : AreStubLinksOf lsas links = subst (λ (ls : List StubLink). AreStubLinksOf lsas ls) (sym c.as_slice.ensures) c.requires.stubs in
    let reached : List ReachedValue = c.in_ok-reached.reached.items in
    let routes = c.in_ok-routes.routes.items in
    let offers : List OfferValue = map offered routes in
    result_of_area lsas root t tree c.args.hops.now are c.args.area links of reached
    (reached_from-area lsas root t tree c.args.hops.now are reached c.in_ok-reached.ensures)
    offers
    (c.in_ok-routes.ensures.offers
    ∙ ap (λ (rs : List ReachedValue). offers_at c.in-Router.root tree.distances c.args.hops.now rs links) c.deref.ensures.value
    ∙ ap (λ (r : RouterId). offers_at r tree.distances c.args.hops.now reached links) same)
    c.add_entries.new.area
    (c.in_ok-add_entries.ensures
    ∙ ap (λ (r : AreaResultValue). with_entries r (area_entries r.area c.in-Router.root c.deref-2.result.now)) c.without_entries-built.ensures
    ∙ ap (λ (rs : List ReachedValue). with_entries (result_by c.args.area routes []) (area_entries c.args.area c.in-Router.root rs)) c.deref-2.ensures.value
    ∙ ap (λ (r : RouterId). with_entries (result_by c.args.area routes []) (area_entries c.args.area r reached)) same)
