use Rattle.area_routes.proofs.OverAllPathsLemmas.{reached_over_all_paths}
use Rattle.area_routes.proofs.laws.reached_over_all_paths.Goals as goal

pub returns : goal.returns
returns c = reached_over_all_paths
