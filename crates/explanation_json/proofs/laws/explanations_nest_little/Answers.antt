use Rattle.explanation_json.proofs.Nesting.{explanation_shallow}
use Rattle.explanation_json.proofs.laws.explanations_nest_little.Goals as goal

pub returns : goal.returns
returns c = explanation_shallow c.replies_nest_little.ensures.routes
