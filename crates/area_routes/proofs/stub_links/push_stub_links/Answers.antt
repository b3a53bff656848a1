use Rattle.std.proofs.Common.{List, [], ap, ◌∙◌, ◌++◌, sym, append_assoc}
use Rattle.std.specs.List.{cons_option}
use Rattle.area_routes.specs.StubLinks.{stub_link}
use Rattle.area_routes.specs.declared.stub_links.StubLink.{StubLink}
use Rattle.area_routes.proofs.AddsLemmas.{filter_map_adds}
use Rattle.area_routes.proofs.stub_links.push_stub_links.Goals as goal

pub loop-link-preserved : goal.loop-link-preserved
loop-link-preserved g c =
    let f = stub_link c.args.vertex c.args.lsa.now in
    c.in_ok-push_stub_link.ensures
    ∙ ap (λ (l : List StubLink). l ++ cons_option (f c.in-Some-link.link) []) c.loop-link.invariant
    ∙ append_assoc c.args.links.now.items _ _
    ∙ ap (λ (l : List StubLink). c.args.links.now.items ++ l) (sym ((filter_map_adds f).push c.loop-link.yielded c.in-Some-link.link))
