-- What proofs of callers need of trees beside the contracts: the order in which vertices are settled, along the edges of
-- the graph; what a distance that is there says; and that a tree's distances are a function of the graph and the root.
pub use Rattle.spf.proofs.Keys.{arc_key, key_at, Less-from_key, not_both_Less}
pub use Rattle.spf.proofs.Reached.{some_of, within_some}
pub use Rattle.spf.proofs.Trees.{distances-are}
