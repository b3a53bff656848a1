use Rattle.std.proofs.Common.{List, Result, sym, subst}
use Rattle.network_names.specs.Words.{words}
use Rattle.network_names.specs.Fault.{FaultAt}
use Rattle.network_names.specs.File.{Takes}
use Rattle.network_names.specs.Names.{Named}
use Rattle.network_names.proofs.LineSteps.{bad_address, entry, missing_name}
use Rattle.network_names.proofs.lines.add_entry.Goals as goal

pub returns-in_default : goal.returns-in_default
returns-in_default g c = λ all are. bad_address c.args.line all c.args.word.now (words c.args.text.now) (sym c.in_default.ensures)

pub returns-in-None : goal.returns-in-None
returns-in-None g c = λ all are.
    missing_name c.args.line all c.args.word.now (words c.args.text.now) c.in-Some.address (sym c.in-Some.ensures) c.in-None.ensures.value

pub returns-in-Some-next_word : goal.returns-in-Some-next_word
returns-in-Some-next_word g c = λ all are.
    subst (λ (given : Result (List Named) FaultAt). Takes c.add_names.result given c.add_names.new.names)
    (sym (entry c.args.line all c.args.word.now (words c.args.text.now) c.in-Some.address (sym c.in-Some.ensures) _ _ c.in-Some-next_word.ensures.value.0))
    (c.add_names.ensures all are)
