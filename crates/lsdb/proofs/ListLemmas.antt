-- For callers: what holds of all items and of all pairs of a list, and of one item in its middle.
pub use Rattle.lsdb.proofs.Middle.{map_mid, all_map, all_at_mid, pairs_head, pairs_tail, pairs_before, pairs_after}
