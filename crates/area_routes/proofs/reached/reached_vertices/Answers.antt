use Rattle.std.proofs.Common.{◌≡◌, List, [], ◌++◌, length, Option, refl, ap, sym, ◌∙◌}
use Rattle.std.specs.List.{cons_option}
use Rattle.std.proofs.lemmas.Option.{slice_get_read}
use Rattle.std.proofs.lemmas.List.{append-nil}
use Rattle.area_routes.specs.Reached.{ReachedValue, reached_by}
use Rattle.area_routes.proofs.Reaching.{found_more}
use Rattle.area_routes.proofs.reached.reached_vertices.Goals as goal
use Rattle.area_routes.proofs.reached.reached_vertices.Goals.{in-Some+in_ok-push, in_default}

pub loop-index-preserved : goal.loop-index-preserved
loop-index-preserved g c = λ distance first ds hs.
    let lsas = c.args.lsas.now in
    let i = c.loop-index.index in
    let x = c.index-lsas-index.result in
    let old : List ReachedValue = c.loop-index.reached.items in
    let found : c.reached_at.result ≡ reached_by distance first x = c.reached_at.ensures distance first lsas ds hs
    (slice_get_read lsas (length lsas) i x refl c.loop-index-test.true c.index-lsas-index.is) in
    elim c.match-reached_at.branch [
      | in-Some+in_ok-push w ↦
          found_more (reached_by distance first) lsas i x c.loop-index-test.true c.index-lsas-index.is old c.match-reached_at.reached.items
          (c.loop-index.invariant distance first ds hs)
          (ap (λ v. v.items) w.reached-is ∙ w.in_ok-push.ensures.items ∙ ap (λ (o : Option ReachedValue). old ++ cons_option o []) (sym w.in-Some.is ∙ found))
      | in_default w ↦
          found_more (reached_by distance first) lsas i x c.loop-index-test.true c.index-lsas-index.is old c.match-reached_at.reached.items
          (c.loop-index.invariant distance first ds hs)
          (ap (λ v. v.items) w.reached-is ∙ sym (append-nil old) ∙ ap (λ (o : Option ReachedValue). old ++ cons_option o []) (sym w.in_default.is ∙ found))
    ]
