use Rattle.std.proofs.Common.{◌++◌, ◌∙◌, ap, codes, map, sym}
use Rattle.study_words.specs.StudyWords.{study_text}
use Rattle.study_hints.specs.ArgumentHints.{argument_hint, or_near}
use Rattle.study_hints.specs.Near.{near}
use Rattle.study_hints.proofs.Pieces.{on_ok}
use Rattle.study_hints.proofs.argument_hint.push_argument_hint.Goals as goal

pub returns-in-Word : goal.returns-in-Word
unfolding argument_hint
returns-in-Word g c =
    let old = c.args.text.now.items in
    let known = map (λ name. name.now) c.args.known.now in
    on_ok c.push_near.result
    (λ pushed. pushed ∙ ap (λ words. old ++ or_near (near c.args.word.now (map study_text words)) (codes "see help")) c.commands.ensures
    ∙ ap (λ role. old ++ argument_hint known role c.args.word.now) (sym c.in-Word.is))
    c.push_near.ensures
