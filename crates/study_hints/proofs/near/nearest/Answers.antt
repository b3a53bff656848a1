use Rattle.std.proofs.Common.{ap, ◌∙◌}
use Rattle.std.specs.Prelude.{option_map}
use Rattle.study_hints.specs.Near.{likeness}
use Rattle.study_hints.proofs.MostLike.{most_kept, most_taken, near_all, near_kept, near_taken}
use Rattle.study_hints.proofs.near.nearest.Goals.{else-alike-most, then-alike-most}
use Rattle.study_hints.proofs.near.nearest.Goals as goal

pub loop-candidate-preserved : goal.loop-candidate-preserved
loop-candidate-preserved g c =
    let written = g.T.Candidate.written in
    let word = c.args.word.now in
    let all = c.args.candidates.now in
    let i = c.loop-candidate.candidate-index in
    let next = c.candidate-item.result in
    let most = c.loop-candidate.most in
    let so_far = c.loop-candidate.invariant in
    let alike = c.likeness-alike.ensures ∙ ap (likeness word) c.bytes.ensures in
    elim c.if-alike-most.branch [
      | then-alike-most w ↦ record {
        most = w.most-is ∙ most_taken written word all i next c.loop-candidate-test.true c.candidate-item.is most c.likeness-alike.result
            so_far.most alike w.if-alike-most.true;
        best = ap (option_map (λ found. written found.now)) w.best-is
            ∙ near_taken written word all i next c.loop-candidate-test.true c.candidate-item.is most c.likeness-alike.result
            so_far.most alike w.if-alike-most.true;
      }
      | else-alike-most w ↦ record {
        most = w.most-is ∙ most_kept written word all i next c.loop-candidate-test.true c.candidate-item.is most c.likeness-alike.result
            so_far.most alike w.if-alike-most.false;
        best = ap (option_map (λ found. written found.now)) w.best-is ∙ so_far.best
            ∙ near_kept written word all i next c.loop-candidate-test.true c.candidate-item.is most c.likeness-alike.result
            so_far.most alike w.if-alike-most.false;
      }
    ]

pub returns : goal.returns
returns g c =
    near_all g.T.Candidate.written c.args.word.now c.args.candidates.now c.loop-candidate.candidate-index
    (option_map (λ found. g.T.Candidate.written found.now) c.loop-candidate.best) c.loop-candidate-test.false c.loop-candidate.invariant.best
