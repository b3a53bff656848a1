use Rattle.std.proofs.Common.{◌∙◌, sym}
use Rattle.frr_text.specs.Words.{words}
use Rattle.frr_text.proofs.ParsedParts.{printed_here, printed_later, printed_nowhere}
use Rattle.frr_text.proofs.printed.is_printed.Goals as goal

pub returns-then-begins_here : goal.returns-then-begins_here
returns-then-begins_here c =
    sym (printed_here (words c.loop-word.rest.now) c.in-Some._word.now (words c.in-Some.after.now) c.in-Some.ensures.0
    (sym c.begins_here.ensures ∙ c.if-begins_here.true))
    ∙ c.loop-word.invariant

pub loop-word-preserved : goal.loop-word-preserved
loop-word-preserved c =
    sym (printed_later (words c.loop-word.rest.now) c.in-Some._word.now (words c.in-Some.after.now) c.in-Some.ensures.0
    (sym c.begins_here.ensures ∙ c.if-begins_here.false))
    ∙ c.loop-word.invariant

pub returns : goal.returns
returns c = sym (printed_nowhere (words c.loop-word.rest.now) c.in_default.ensures) ∙ c.loop-word.invariant
