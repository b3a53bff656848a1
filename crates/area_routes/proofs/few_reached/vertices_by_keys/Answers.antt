use Rattle.std.proofs.Common.{◌≡◌, ℕ, ◌<◌, ◌++◌, List, [], Option, get_or, length, sym, ap, ◌∙◌, arith}
use Rattle.std.specs.List.{cons_option, filter_map}
use Rattle.std.proofs.lemmas.List.{append-nil, get_or_default, length-map, take_all}
use Rattle.std.proofs.lemmas.Option.{slice_get-get_or}
use Rattle.lsdb.specs.Slots.{lsas_in}
use Rattle.area_graph.specs.declared.vertex.Vertex.{Vertex}
use Rattle.area_graph.specs.Area.{used, vertex_of}
use Rattle.area_routes.specs.Reached.{ReachedValue, reached_by}
use Rattle.area_routes.proofs.Reaching.{found_more}
use Rattle.area_routes.proofs.few_reached.vertices_by_keys.Goals as goal
use Rattle.area_routes.proofs.few_reached.vertices_by_keys.Goals.{in-Some+in_ok-push, in_default-found}

pub loop-index-preserved : goal.loop-index-preserved
loop-index-preserved g c = λ distance first ds hs.
    let us = used (lsas_in c.args.database.now c.args.section) in
    let i = c.loop-index.index in
    let size : length c.args.graph.now.vertices ≡ length us = ap (λ (vs : List Vertex). length vs) c.requires.fits.vertices ∙ length-map us vertex_of in
    let count = c.len-index-end.ensures.count in
    let lt : i < length us = omega (arith, c.loop-index-test.true, count, size) in
    let x = get_or us i [] in
    let at = get_or_default us i [] x lt in
    let old : List ReachedValue = c.loop-index.reached.items in
    let found : c.in-Ok.found ≡ reached_by distance first x = c.in-Ok.ensures distance first ds hs x (slice_get-get_or us i [] lt) in
    elim c.match-found.branch [
      | in-Some+in_ok-push w ↦
          found_more (reached_by distance first) us i x lt at old c.match-found.reached.items (c.loop-index.invariant distance first ds hs)
          (ap (λ v. v.items) w.reached-is ∙ w.in_ok-push.ensures.items ∙ ap (λ (o : Option ReachedValue). old ++ cons_option o []) (sym w.in-Some.is ∙ found))
      | in_default-found w ↦
          found_more (reached_by distance first) us i x lt at old c.match-found.reached.items (c.loop-index.invariant distance first ds hs)
          (ap (λ v. v.items) w.reached-is ∙ sym (append-nil old)
          ∙ ap (λ (o : Option ReachedValue). old ++ cons_option o []) (sym w.in_default-found.is ∙ found))
    ]

pub returns : goal.returns
returns g c = λ distance first ds hs.
    let us = used (lsas_in c.args.database.now c.args.section) in
    let size : length c.args.graph.now.vertices ≡ length us = ap (λ (vs : List Vertex). length vs) c.requires.fits.vertices ∙ length-map us vertex_of in
    let count = c.len-index-end.ensures.count in
    c.loop-index.invariant distance first ds hs
    ∙ ap (λ (ls : List (List ℕ)). filter_map (reached_by distance first) ls) (take_all c.loop-index.index us (omega (arith, c.loop-index-test.false, count, size)))
