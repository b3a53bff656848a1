use Rattle.std.proofs.Common.{◌≡◌, ℕ, ◌+◌, ◌++◌, ◌∷◌, [], List, length, take, ap, sym, ◌∙◌, arith}
use Rattle.std.proofs.lemmas.List.{length-take, take_all, take_more}
use Rattle.area_routes.specs.declared.stub_links.StubLink.{StubLink}
use Rattle.area_routes.specs.StubLinks.{stub_links_from, stub_links_of}
use Rattle.area_routes.proofs.StubOffers.{one_more}
use Rattle.area_routes.proofs.stub_links.stub_links.Goals as goal

pub loop-vertex-init : goal.loop-vertex-init
unfolding stub_links_from
loop-vertex-init g c = c.new-links.ensures.items

pub loop-vertex-preserved : goal.loop-vertex-preserved
loop-vertex-preserved g c =
    let lsas : List (List ℕ) = c.args.lsas.now in
    let i : ℕ = c.loop-vertex.vertex in
    let lsa : List ℕ = c.index-lsas-vertex.result in
    let before : List (List ℕ) = take i lsas in
    let sized : 0 + length before ≡ i = let n = length-take i lsas in omega (arith, c.loop-vertex-test.true) in
    c.in_ok-push_stub_links.ensures
    ∙ ap (λ (l : List StubLink). l ++ stub_links_of i c.lsa.result.now) c.loop-vertex.invariant
    ∙ ap (λ (x : List ℕ). stub_links_from 0 before ++ stub_links_of i x) c.lsa.ensures
    ∙ ap (λ (k : ℕ). stub_links_from 0 before ++ stub_links_of k lsa) (sym sized)
    ∙ sym (one_more 0 before lsa)
    ∙ ap (stub_links_from 0) (ap (λ (x : List ℕ). before ++ x ∷ []) c.index-lsas-vertex.is ∙ sym (take_more lsas i lsa c.loop-vertex-test.true))

pub returns : goal.returns
returns g c = c.loop-vertex.invariant ∙ ap (stub_links_from 0) (take_all c.loop-vertex.vertex c.args.lsas.now c.loop-vertex-test.false)
