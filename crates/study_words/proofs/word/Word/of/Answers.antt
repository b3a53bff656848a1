use Rattle.std.proofs.Common.{sym, ap, ◌∙◌}
use Rattle.study_words.specs.Named.{named}
use Rattle.study_words.proofs.OneOf.{found, passed, missed}
use Rattle.study_words.proofs.word.Word.of.Goals as goal

pub returns-then-is_text : goal.returns-then-is_text
returns-then-is_text g c =
    sym (found g.Self.Word.spelled c.all-value-items.result.now c.loop-value.value-index c.args.word.now c.value-item.result c.value-item.is
    c.loop-value-test.true (sym c.is_text.ensures ∙ c.if-is_text.true))
    ∙ c.loop-value.invariant
    ∙ ap (λ those. named g.Self.Word.spelled those c.args.word.now) c.all-value-items.ensures

pub loop-value-preserved : goal.loop-value-preserved
loop-value-preserved g c =
    sym (passed g.Self.Word.spelled c.all-value-items.result.now c.loop-value.value-index c.args.word.now c.value-item.result c.value-item.is
    c.loop-value-test.true (sym c.is_text.ensures ∙ c.if-is_text.false))
    ∙ c.loop-value.invariant

pub returns : goal.returns
returns g c =
    sym (missed g.Self.Word.spelled c.all-value-items.result.now c.loop-value.value-index c.args.word.now c.loop-value-test.false)
    ∙ c.loop-value.invariant
    ∙ ap (λ those. named g.Self.Word.spelled those c.args.word.now) c.all-value-items.ensures
