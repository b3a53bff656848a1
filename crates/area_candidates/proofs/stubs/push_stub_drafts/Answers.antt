use Rattle.std.proofs.Common.{◌≡◌, ◌<◌, ◌≤◌, ◌++◌, List, length, get_or, sym, ap, ◌∙◌, arith}
use Rattle.std.specs.List.{enumerate_from, filter_map}
use Rattle.lsa_codec.specs.declared.link.Link.{Link}
use Rattle.lsa_codec.specs.Fields.{kind_of}
use Rattle.lsa_codec.specs.Links.{links_of}
use Rattle.area_candidates.specs.Within.{stub_draft}
use Rattle.area_candidates.proofs.StubLinks.{all_numbered, length-links_of, links_of_router, none_numbered, one_numbered}
use Rattle.area_candidates.proofs.stubs.push_stub_drafts.Goals as goal

pub loop-place-init : goal.loop-place-init
loop-place-init g c =
    none_numbered (stub_draft c.args.view.now c.args.net c.args.found.now) c.args.drafts.now.items c.in_ok-links.links.items

pub index-link-requires : goal.index-link-requires
index-link-requires g c =
    omega (arith, c.from.ensures, c.loop-place-test.true, c.link_count-place-end.ensures, length-links_of c.in-Some.lsa, ap length c.in_ok-links.ensures)

pub loop-place-preserved : goal.loop-place-preserved
loop-place-preserved g c =
    let of = stub_draft c.args.view.now c.args.net c.args.found.now in
    let links = c.in_ok-links.links.items in
    let place = c.loop-place.place in
    let link = c.index-link.result.now in
    let below : place < length links =
    omega (arith, c.loop-place-test.true, c.link_count-place-end.ensures, length-links_of c.in-Some.lsa, ap length c.in_ok-links.ensures) in
    one_numbered of c.args.drafts.now.items links place link _ _ below (c.index-link.ensures ∙ ap (λ n. get_or links n link) c.from.ensures)
    c.loop-place.invariant c.in_ok-push_stub_draft.ensures

pub returns : goal.returns
returns g c =
    let of = stub_draft c.args.view.now c.args.net c.args.found.now in
    let lsa = c.args.found.now.lsa in
    let kind : kind_of lsa ≡ 1 = ap kind_of (sym c.lsa.ensures) ∙ c.in-Some.ensures.1 in
    let past : length c.in_ok-links.links.items ≤ c.loop-place.place =
    omega (arith, c.loop-place-test.false, c.link_count-place-end.ensures, length-links_of c.in-Some.lsa, ap length c.in_ok-links.ensures) in
    all_numbered of c.args.drafts.now.items c.in_ok-links.links.items c.loop-place.place c.loop-place.drafts.items past c.loop-place.invariant
    ∙ ap (λ (links : List Link). c.args.drafts.now.items ++ filter_map of (enumerate_from 1 links))
    (c.in_ok-links.ensures ∙ ap links_of (c.in-Some.ensures.0 ∙ c.lsa.ensures) ∙ sym (links_of_router lsa kind))
