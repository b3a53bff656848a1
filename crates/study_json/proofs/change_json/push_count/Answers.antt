use Rattle.std.proofs.Common.{ℕ, decimal, subst, arith}
use Rattle.json.specs.Print.{IsNumber}
use Rattle.json.proofs.Printed.Decimals.{IsNumber-decimal}
use Rattle.study_json.proofs.Outcomes.{always}
use Rattle.study_json.proofs.change_json.push_count.Goals as goal

pub returns-clause-numbers : goal.returns-clause-numbers
returns-clause-numbers g c =
    always c.push_word.result
    (subst (λ (n : ℕ). IsNumber (decimal n)) c.count_of.ensures (IsNumber-decimal c.count_of.result (omega arith)), tt)
