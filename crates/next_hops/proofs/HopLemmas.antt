-- What proofs of callers need of hops besides the contracts: their order; that a sorted list is determined by its hops;
-- and the hops of all least paths, over an area's edges.
pub use Rattle.next_hops.proofs.HopOrder.{hop_cmp_total, same_hop}
pub use Rattle.next_hops.proofs.HopsOf.{Contains-hops_of, hops_of-edges}
pub use Rattle.next_hops.proofs.Inserted.{IsSortedHops-rising, rising-sorted}
