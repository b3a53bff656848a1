use Rattle.std.proofs.Common.{◌≡◌, ℕ, ◌+◌, ◌<◌, ◌∷◌, [], ◌++◌, List, length, map, take, get_or, sym, ap, subst, append_assoc, ◌∙◌}
use Rattle.std.proofs.lemmas.List.{map_push, take_more}
use Rattle.capture_report.specs.Newer.{Instance, of_observation}
use Rattle.capture_report.specs.steps.Newest.{AreNewest}
use Rattle.capture_report.proofs.OneMore.{one_more_derived}
use Rattle.capture_report.proofs.newer.put_observations.Goals as goal

one_after : {S : Type 0} (f : S → Instance) (shown : List Instance) (all : List S) (i : ℕ) (x : S) (one : Instance) → i < length all
    → x ≡ get_or all i x → one ≡ f x → (shown ++ map f (take i all)) ++ one ∷ [] ≡ shown ++ map f (take (i + 1) all)
one_after f shown all i x one within is e =
    ap (λ y. (shown ++ map f (take i all)) ++ y ∷ []) e
    ∙ append_assoc shown (map f (take i all)) (f x ∷ [])
    ∙ ap (λ l. shown ++ l)
    (sym (map_push f (take i all) x) ∙ ap (λ y. map f (take i all ++ y ∷ [])) is ∙ ap (map f) (sym (take_more all i x within)))

pub loop-observation-preserved : goal.loop-observation-preserved
loop-observation-preserved g c = λ shown before.
    let all = c.args.observations.now in
    let i = c.loop-observation.observation-index in
    let one : Instance = c.of_observation.result in
    subst (λ l. AreNewest l c.put_shown.new.newest)
    (one_after of_observation shown all i c.observation-item.result one c.loop-observation-test.true c.observation-item.is c.of_observation.ensures)
    (one_more_derived (shown ++ map of_observation (take i all)) c.loop-observation.newest c.put_shown.new.newest one (c.loop-observation.invariant shown before)
    c.in_ok-put_shown.ensures)
