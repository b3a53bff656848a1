use Rattle.std.proofs.Common.{sym, ◌∙◌, arith}
use Rattle.text_words.proofs.Spelled.{not_digits, not_utf8, not_parsed, parsed_over, parsed_found}
use Rattle.text_words.proofs.digits.digits_up_to.Goals as goal

pub returns-then-not-are_digits-clause-value : goal.returns-then-not-are_digits-clause-value
returns-then-not-are_digits-clause-value c =
    sym (not_digits c.args.digits c.args.max c.args.word.now (sym c.are_digits.ensures ∙ c.if-not-are_digits.true))

pub returns-in_default-clause-value : goal.returns-in_default-clause-value
returns-in_default-clause-value c =
    sym (not_utf8 c.args.digits c.args.max c.args.word.now (sym c.are_digits.ensures ∙ c.if-not-are_digits.false) c.in_default.ensures.cases.0)

pub returns-in_default-from_str_radix-clause-value : goal.returns-in_default-from_str_radix-clause-value
returns-in_default-from_str_radix-clause-value c =
    let h = c.in_default-from_str_radix.ensures.value in
    sym (not_parsed c.args.digits c.args.max c.args.word.now (sym c.are_digits.ensures ∙ c.if-not-are_digits.false) (omega arith)
    (rw (c.in-Ok.ensures.cases.0, c.radix.ensures.value) at h))

pub returns-then-number-max-clause-value : goal.returns-then-number-max-clause-value
returns-then-number-max-clause-value c =
    let h = c.in-Ok-from_str_radix.ensures.value in
    let parsed = rw (c.in-Ok.ensures.cases.0, c.radix.ensures.value) at h in
    sym (parsed_over c.args.digits c.args.max c.args.word.now (sym c.are_digits.ensures ∙ c.if-not-are_digits.false) c.in-Ok-from_str_radix.number
    parsed.1 c.if-number-max.true)

pub returns-clause-value : goal.returns-clause-value
returns-clause-value c =
    let h = c.in-Ok-from_str_radix.ensures.value in
    let parsed = rw (c.in-Ok.ensures.cases.0, c.radix.ensures.value) at h in
    sym (parsed_found c.args.digits c.args.max c.args.word.now (sym c.are_digits.ensures ∙ c.if-not-are_digits.false) c.in-Ok-from_str_radix.number
    parsed.0.0 parsed.1 c.if-number-max.false)
