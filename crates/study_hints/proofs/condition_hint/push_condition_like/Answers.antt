use Rattle.std.proofs.Common.{◌∙◌, ap, codes, map, refl, sym}
use Rattle.study_words.specs.ConditionWords.{condition_text}
use Rattle.study_hints.specs.ArgumentHints.{or_near}
use Rattle.study_hints.specs.ConditionHints.{condition_texts, one_of}
use Rattle.study_hints.specs.Near.{near}
use Rattle.study_hints.proofs.Pieces.{added, offered}
use Rattle.study_hints.proofs.condition_hint.push_condition_like.Goals as goal

pub returns : goal.returns
returns g c =
    let word = condition_text c.in-Some.found.now in
    let begun = c.extend_from_slice.new.self.items in
    offered (λ found. or_near found (one_of condition_texts)) (codes "did you mean ") word (near c.args.word.now condition_texts) word
    (ap (λ words. near c.args.word.now (map condition_text words)) (sym c.all.ensures) ∙ sym c.in-Some.ensures) refl
    c.extend_from_slice-2.result c.args.text.now.items begun _ c.in_ok-extend_from_slice.ensures.items
    (added c.extend_from_slice-2.result begun c.bytes.result.now word _ c.bytes.ensures c.extend_from_slice-2.ensures.items)
