use Rattle.area_routes.proofs.Choosing.{chosen_best, chosen_each, chosen_one}
use Rattle.area_routes.proofs.choice.network_choice.Goals as goal

pub returns : goal.returns
returns c = record { best = chosen_best; each = chosen_each; one = chosen_one }
