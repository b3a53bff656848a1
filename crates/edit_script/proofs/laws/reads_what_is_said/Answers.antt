use Rattle.edit_script.specs.Words.{words}
use Rattle.edit_script.proofs.RoundTrip.{means}
use Rattle.edit_script.proofs.SpelledLines.{said}
use Rattle.edit_script.proofs.laws.reads_what_is_said.Goals as goal

pub returns : goal.returns
returns c = λ line branch command. (said (words line) branch command, λ both. means (words line) branch command both.0 both.1)
