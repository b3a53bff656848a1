use Rattle.std.proofs.Common.{◌∙◌, sym}
use Rattle.frr_text.specs.Words.{words}
use Rattle.lsdb_listing.proofs.LineKinds.{word_here, word_later, word_nowhere}
use Rattle.lsdb_listing.proofs.line_kind.has_heading_word.Goals as goal

pub returns-then-is_heading_word : goal.returns-then-is_heading_word
returns-then-is_heading_word c =
    sym (word_here (words c.loop-word.rest.now) c.in-Some._word.now (words c.in-Some.after.now) c.in-Some.ensures.0
    (sym c.is_heading_word.ensures ∙ c.if-is_heading_word.true))
    ∙ c.loop-word.invariant

pub loop-word-preserved : goal.loop-word-preserved
loop-word-preserved c =
    sym (word_later (words c.loop-word.rest.now) c.in-Some._word.now (words c.in-Some.after.now) c.in-Some.ensures.0
    (sym c.is_heading_word.ensures ∙ c.if-is_heading_word.false))
    ∙ c.loop-word.invariant

pub returns : goal.returns
returns c = sym (word_nowhere (words c.loop-word.rest.now) c.in_default.ensures) ∙ c.loop-word.invariant
