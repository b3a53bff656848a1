use Rattle.capture_files.proofs.OptionWalk.{none_left, value_found, goes_on, all_seen}
use Rattle.capture_files.proofs.options.option_of.Goals as goal

pub returns-in_default : goal.returns-in_default
returns-in_default c = none_left _ c.options.counter c.args.order c.args.code _ _ c.options-test.true c.in_default.ensures c.options.invariant

pub returns-then-found-code : goal.returns-then-found-code
returns-then-found-code c =
    value_found _ c.options.counter c.args.order c.args.code c.in-Some.found _ _ c.in-Some.after.now _ c.options-test.true c.in-Some.ensures
    c.if-found-code.true c.options.invariant

pub options-preserved : goal.options-preserved
options-preserved c =
    goes_on _ c.options.counter c.args.order c.args.code c.in-Some.found _ c.in-Some.value.now _ _ c.options-test.true c.in-Some.ensures
    c.if-found-code.false c.options.invariant

pub returns : goal.returns
returns c = all_seen _ c.options.counter _ _ _ _ c.options-test.false c.options.invariant
