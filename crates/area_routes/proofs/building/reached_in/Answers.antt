use Rattle.std.proofs.Common.{◌≡◌, ◌∙◌, ℕ, List, Option, length, map, ap, subst, sym}
use Rattle.std.specs.List.{filter_map}
use Rattle.std.specs.Result.{IfOk}
use Rattle.lsdb.specs.declared.section.Section.TheVariants.{Area}
use Rattle.lsdb.specs.Lists.{lsas_of}
use Rattle.lsdb.specs.Slots.{lists_of}
use Rattle.area_graph.specs.declared.vertex.Vertex.{Vertex}
use Rattle.area_graph.specs.Area.{used, vertex_of}
use Rattle.next_hops.specs.declared.hop.Hop.{Hop}
use Rattle.area_routes.specs.Reached.{reached_by}
use Rattle.area_routes.proofs.InUse.{all_in_use}
use Rattle.area_routes.proofs.building.reached_in.Goals as goal

pub returns-then-count-len : goal.returns-then-count-len
returns-then-count-len g c =
    let lsas = lsas_of (Area c.args.area) (lists_of c.args.database.now) in
    let count : length lsas ≡ length c.args.graph.now.vertices = sym c.count.ensures ∙ c.if-count-len.true ∙ c.len.ensures.count in
    let all : c.lsas-lsas.result ≡ used lsas = c.lsas-lsas.ensures.lsas ∙ sym (all_in_use lsas c.args.graph.now.vertices c.requires.vertices count) in
    subst (λ (ls : List (List ℕ)). IfOk c.reached_of_all.result (λ reached. (distance : Vertex → Option ℕ) (first : Vertex → List Hop)
    → c.args.tree.now.distances ≡ map (λ l. distance (vertex_of l)) ls → c.args.hops.now ≡ map (λ l. first (vertex_of l)) ls
    → reached.items ≡ filter_map (reached_by distance first) ls)) all c.reached_of_all.ensures

pub returns : goal.returns
returns g c =
    let lsas = lsas_of (Area c.args.area) (lists_of c.args.database.now) in
    let all : c.deref.result.now ≡ used lsas = c.deref.ensures.value ∙ c.in_ok-lsas.ensures ∙ ap used c.lsas-lsas.ensures.lsas in
    subst (λ (ls : List (List ℕ)). IfOk c.reached_vertices.result (λ reached. (distance : Vertex → Option ℕ) (first : Vertex → List Hop)
    → c.args.tree.now.distances ≡ map (λ l. distance (vertex_of l)) ls → c.args.hops.now ≡ map (λ l. first (vertex_of l)) ls
    → reached.items ≡ filter_map (reached_by distance first) ls)) all c.reached_vertices.ensures
