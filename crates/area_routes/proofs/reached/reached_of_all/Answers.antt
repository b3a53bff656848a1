use Rattle.std.proofs.Common.{◌≡◌, ◌<◌, ℕ, List, [], ◌∷◌, ◌++◌, length, drop, Option, Some, refl, ap, sym, subst, ◌∙◌, arith}
use Rattle.std.specs.List.{cons_option, filter_map, slice_get}
use Rattle.std.proofs.lemmas.Option.{slice_get-get_or}
use Rattle.std.proofs.lemmas.List.{append-nil, get_or_default, take_all}
use Rattle.area_routes.specs.Reached.{ReachedValue, reached_by}
use Rattle.area_routes.proofs.Reaching.{found_more, next_is, none_left}
use Rattle.area_routes.proofs.reached.reached_of_all.Goals as goal
use Rattle.area_routes.proofs.reached.reached_of_all.Goals.{in-Some-reached_with+in_ok-push, in_default-reached_with}

pub loop-index-init : goal.loop-index-init
loop-index-init g c = (refl, λ distance first ds hs. c.in_ok-reached.ensures.items)

pub unreachable-requires : goal.unreachable-requires
unreachable-requires g c =
    let lsas = c.args.lsas in
    let i = c.loop-index.index in
    let lt : i < length lsas = subst (λ (n : ℕ). i < n) c.requires.count c.loop-index-test.true in
    none_left lsas i lt (sym (c.loop-index.invariant.0) ∙ c.in_default.ensures.steps.0)

pub loop-index-preserved : goal.loop-index-preserved
loop-index-preserved g c =
    let lsas = c.args.lsas in
    let i = c.loop-index.index in
    let x : List ℕ = c.in-Some.lsa.now in
    let lt : i < length lsas = subst (λ (n : ℕ). i < n) c.requires.count c.loop-index-test.true in
    let steps : drop i lsas ≡ x ∷ c.next.new.self = sym (c.loop-index.invariant.0) ∙ c.in-Some.ensures.steps in
    let next = next_is lsas i x c.next.new.self lt steps in (
      next.1,
      λ distance first ds hs.
          let old : List ReachedValue = c.loop-index.reached.items in
          let here : slice_get lsas i ≡ Some x = slice_get-get_or lsas i [] lt ∙ ap Some (get_or_default lsas i [] x lt ∙ sym next.0) in
          let found : c.reached_with.result ≡ reached_by distance first x = c.reached_with.ensures distance first lsas ds hs here in
          elim c.match-reached_with.branch [
            | in-Some-reached_with+in_ok-push w ↦
                found_more (reached_by distance first) lsas i x lt next.0 old c.match-reached_with.reached.items
                (c.loop-index.invariant.1 distance first ds hs)
                (ap (λ v. v.items) w.reached-is ∙ w.in_ok-push.ensures.items
                ∙ ap (λ (o : Option ReachedValue). old ++ cons_option o []) (sym w.in-Some-reached_with.is ∙ found))
            | in_default-reached_with w ↦
                found_more (reached_by distance first) lsas i x lt next.0 old c.match-reached_with.reached.items
                (c.loop-index.invariant.1 distance first ds hs)
                (ap (λ v. v.items) w.reached-is ∙ sym (append-nil old)
                ∙ ap (λ (o : Option ReachedValue). old ++ cons_option o []) (sym w.in_default-reached_with.is ∙ found))
          ],
    )

pub returns : goal.returns
returns g c = λ distance first ds hs.
    c.loop-index.invariant.1 distance first ds hs
    ∙ ap (λ (ls : List (List ℕ)). filter_map (reached_by distance first) ls)
    (take_all c.loop-index.index c.args.lsas (omega (arith, c.loop-index-test.false, c.requires.count)))
