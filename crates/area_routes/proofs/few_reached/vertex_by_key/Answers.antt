use Rattle.std.proofs.Common.{◌≡◌, ◌≢◌, List, ℕ, Some, map, sym, ap, subst, ◌∙◌}
use Rattle.std.specs.List.{AllPairs, slice_get}
use Rattle.lsdb.specs.Slots.{lsas_in}
use Rattle.area_graph.specs.declared.vertex.Vertex.{Vertex}
use Rattle.area_graph.specs.Area.{used, vertex_of}
use Rattle.area_graph.proofs.InUseLemmas.{lsa_at_number}
use Rattle.area_routes.specs.Reached.{reached_by}
use Rattle.area_routes.proofs.few_reached.vertex_by_key.Goals as goal

pub returns : goal.returns
returns g c = λ distance first ds hs lsa at.
    let lsas = lsas_in c.args.database.now c.args.section in
    let l : List ℕ = c.in-Some-lsa_of_vertex.lsa in
    let vertices : c.args.graph.now.vertices ≡ map vertex_of (used lsas) = c.requires.fits.vertices in
    let here : slice_get (used lsas) c.args.index ≡ Some l =
    lsa_at_number lsas (subst (λ (vs : List Vertex). AllPairs (λ v w. v ≢ w) vs) vertices c.requires.fits.shape.distinct) c.vertex.result l
    c.in-Some-lsa_of_vertex.ensures c.args.index (sym (ap (λ (vs : List Vertex). slice_get vs c.args.index) vertices) ∙ c.vertex.ensures.vertex) in
    let both : Some l ≡ Some lsa = sym here ∙ at in
    let same : l ≡ lsa = cc in
    c.reached_at.ensures distance first (used lsas) ds hs here ∙ ap (reached_by distance first) same
