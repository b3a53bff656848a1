-- For callers that keep trees: which of a router's trees are there.
pub use Rattle.routing_table.proofs.TreeCounts.{gained_twice, none_gained, none_lacks}
