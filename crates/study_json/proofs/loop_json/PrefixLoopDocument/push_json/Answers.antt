use Rattle.std.proofs.Common.{List, subst}
use Rattle.lsa_codec.specs.declared.address.RouterId.{RouterId}
use Rattle.json.specs.Tree.{HasNumbers}
use Rattle.study_json.specs.Leaves.{array_json, router_json}
use Rattle.study_json.proofs.Outcomes.{always}
use Rattle.study_json.proofs.loop_json.PrefixLoopDocument.push_json.Goals as goal

pub returns-clause-numbers : goal.returns-clause-numbers
returns-clause-numbers g c =
    always c.push_word.result
    (tt, (subst (λ (routers : List RouterId). HasNumbers (array_json router_json routers)) c.routers.ensures c.in_ok-push_next.ensures.numbers, tt))
