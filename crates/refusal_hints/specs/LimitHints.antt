-- What is said of an edit or event that a limit refuses.
use Rattle.std.specs.Prelude.{codes}
use Rattle.edit_history.specs.declared.fault.EditFault.{EditFault}
use Rattle.edit_history.specs.declared.fault.EditFault.TheVariants as fault
use Rattle.refusal_hints.specs.Advice.{AdviceValue, advice, no_advice}

-- E11 and E12, of any edit: the command word
abbrev pub limit_advice : EditFault → AdviceValue
limit_advice fault.Full = advice 0 (codes "a limit of the dump is reached")
limit_advice fault.HistoryFull = advice 0 (codes "10000 edits are done")
limit_advice _ = no_advice
