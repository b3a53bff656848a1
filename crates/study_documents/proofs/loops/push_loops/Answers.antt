use Rattle.std.proofs.Common.{List, subst}
use Rattle.json.specs.Tree.{HasNumbers}
use Rattle.loop_report.specs.Blackholes.{BlackholeValue}
use Rattle.loop_report.specs.Loops.{LoopValue}
use Rattle.study_json.specs.Leaves.{array_json}
use Rattle.study_json.specs.Loops.{blackhole_json, loop_json}
use Rattle.study_documents.proofs.Numbers.{always}
use Rattle.study_documents.proofs.loops.push_loops.Goals as goal

pub returns-clause-numbers : goal.returns-clause-numbers
returns-clause-numbers g c =
    always c.push_word.result (
      subst (λ (loops : List LoopValue). HasNumbers (array_json loop_json loops)) c.loops.ensures c.in_ok-push_next.ensures.numbers,
      (
        subst (λ (blackholes : List BlackholeValue). HasNumbers (array_json blackhole_json blackholes)) c.blackholes.ensures
            c.in_ok-push_next-2.ensures.numbers,
        tt,
      ),
    )
