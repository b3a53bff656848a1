-- For callers: the ways of candidates, which are the same in any order of the candidates, and what holds of ways because it
-- holds of all candidates.
pub use Rattle.best_ways.proofs.Bounds.{All-filter_map, All-flat_map, All-taken, found_has, ways_have, ways_hold, wider_routes}
pub use Rattle.best_ways.proofs.Merging.{HasWays, all_ways, sorted_ways, way_push}
pub use Rattle.best_ways.proofs.Reordered.{same_tests}
