use Rattle.area_graph.proofs.AllPathsLemmas.{IsDistance-distance_of}
use Rattle.area_graph.proofs.laws.distances_are_over_all_paths.Goals as goal

pub returns : goal.returns
returns c = IsDistance-distance_of
