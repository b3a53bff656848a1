use Rattle.std.proofs.Common.{List, ap, subst}
use Rattle.json.specs.Tree.{HasNumbers}
use Rattle.lsa_codec.specs.declared.address.RouterId.{RouterId}
use Rattle.route_lines.specs.declared.path_step.PathStep.{PathStep}
use Rattle.route_lines.specs.PathLines.{PathValue}
use Rattle.study_json.specs.Leaves.{array_json, router_json}
use Rattle.study_json.specs.Steps.{step_json}
use Rattle.study_documents.proofs.Numbers.{always}
use Rattle.study_documents.proofs.routes.push_steps.Goals as goal

pub returns-clause-numbers : goal.returns-clause-numbers
returns-clause-numbers g c =
    always c.push_word.result (
      subst (λ (steps : List PathStep). HasNumbers (array_json step_json steps)) (ap (λ (p : PathValue). p.steps) c.path.view_is)
          c.in_ok-push_next.ensures.numbers,
      (
        subst (λ (loops : List (List RouterId)). HasNumbers (array_json (array_json router_json) loops))
            (ap (λ (p : PathValue). p.loops) c.path.view_is) c.in_ok-push_next-2.ensures.numbers,
        tt,
      ),
    )
