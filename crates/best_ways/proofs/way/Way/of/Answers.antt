use Rattle.std.proofs.Common.{◌≡◌, ◌+◌, [], ◌∷◌, ◌++◌, Option, Some, List, take, sym, ap, ◌∙◌}
use Rattle.std.proofs.lemmas.List.{take_all, take_more}
use Rattle.best_ways.specs.Best.{way_of}
use Rattle.best_ways.specs.Candidate.{Candidate}
use Rattle.best_ways.specs.Values.{WayValue}
use Rattle.best_ways.specs.steps.Merge.{merge}
use Rattle.best_ways.proofs.Merging.{way_push}
use Rattle.best_ways.proofs.way.Way.of.Goals as goal

pub loop-candidate-init : goal.loop-candidate-init
loop-candidate-init g c = ap Some c.in_ok-way.ensures ∙ sym (way_push [] c.args.first.now)

pub loop-candidate-preserved : goal.loop-candidate-preserved
loop-candidate-preserved g c =
    let first = c.args.first.now in
    let others = c.args.others.now in
    let i = c.loop-candidate.candidate-index in
    let x = c.candidate-item.result in
    let more : take (i + 1) others ≡ take i others ++ x ∷ [] =
    take_more others i x c.loop-candidate-test.true ∙ ap (λ z. take i others ++ z ∷ []) (sym c.candidate-item.is) in
    ap Some (c.in_ok-merge.ensures)
    ∙ ap (λ (w : Option WayValue). Some (merge w x)) c.loop-candidate.invariant
    ∙ sym (way_push (first ∷ take i others) x)
    ∙ ap (λ (cs : List (Candidate g.row.K.Denot)). way_of (first ∷ cs)) (sym more)

pub returns : goal.returns
returns g c =
    c.loop-candidate.invariant
    ∙ ap (λ (cs : List (Candidate g.row.K.Denot)). way_of (c.args.first.now ∷ cs))
    (take_all c.loop-candidate.candidate-index c.args.others.now c.loop-candidate-test.false)
