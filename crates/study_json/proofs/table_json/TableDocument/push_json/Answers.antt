use Rattle.std.proofs.Common.{List, ◌∙◌, subst}
use Rattle.best_ways.specs.Values.{RouteValue}
use Rattle.json.specs.Tree.{HasNumbers}
use Rattle.study_json.specs.Leaves.{array_json}
use Rattle.study_json.specs.Tables.{table_route_json}
use Rattle.study_json.proofs.Outcomes.{always}
use Rattle.study_json.proofs.table_json.TableDocument.push_json.Goals as goal

pub returns-clause-numbers : goal.returns-clause-numbers
returns-clause-numbers g c =
    always c.push_word.result (
      tt,
      (
        subst (λ (routes : List RouteValue). HasNumbers (array_json table_route_json routes)) (c.as_slice.ensures.routes ∙ c.routes.ensures)
            c.in_ok-push_next.ensures.numbers,
        tt,
      ),
    )
