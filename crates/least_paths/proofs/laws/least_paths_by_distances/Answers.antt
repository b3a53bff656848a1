use Rattle.least_paths.proofs.ByDistances.{distances-from_path, path-from_distances}
use Rattle.least_paths.proofs.laws.least_paths_by_distances.Goals as goal

pub returns : goal.returns
returns c = λ edges root targets e there. (path-from_distances edges root targets e there, distances-from_path edges root targets e there)
