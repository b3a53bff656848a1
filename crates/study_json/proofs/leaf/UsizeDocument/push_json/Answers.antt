use Rattle.std.proofs.Common.{arith}
use Rattle.json.proofs.Printed.Decimals.{IsNumber-decimal}
use Rattle.study_json.proofs.Outcomes.{always}
use Rattle.study_json.proofs.leaf.UsizeDocument.push_json.Goals as goal

pub returns-clause-numbers : goal.returns-clause-numbers
returns-clause-numbers g c = always c.push_number.result (IsNumber-decimal c.args.self.now (omega arith))
