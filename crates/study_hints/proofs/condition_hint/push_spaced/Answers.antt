use Rattle.std.proofs.Common.{◌++◌, codes, append_assoc, ap, ◌∙◌}
use Rattle.study_hints.specs.ConditionHints.{after_space}
use Rattle.study_hints.proofs.Pieces.{all_pieces, one_more}
use Rattle.study_hints.proofs.condition_hint.push_spaced.Goals as goal

pub loop-word-preserved : goal.loop-word-preserved
loop-word-preserved g c =
    let so_far = c.loop-word.text.items in
    let word = g.T.Candidate.written c.word-item.result in
    one_more after_space g.T.Candidate.written c.args.text.now.items c.args.words.now c.loop-word.word-index c.word-item.result
    so_far _ c.loop-word-test.true c.word-item.is c.loop-word.invariant
    (c.in_ok-extend_from_slice-2.ensures.items ∙ ap (λ l. c.extend_from_slice.new.self.items ++ l) c.bytes.ensures
    ∙ ap (λ l. l ++ word) c.in_ok-extend_from_slice.ensures.items ∙ append_assoc so_far (codes " ") word)

pub returns : goal.returns
returns g c =
    all_pieces after_space g.T.Candidate.written c.args.text.now.items c.args.words.now c.loop-word.word-index
    c.loop-word.text.items c.loop-word-test.false c.loop-word.invariant
