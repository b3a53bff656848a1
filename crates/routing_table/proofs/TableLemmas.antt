-- For callers that make tables of their own: what the areas of a router give, area after area, how many trees are counted, which
-- are kept, and when a table is refused.
pub use Rattle.routing_table.proofs.Counted.{all_results, among_more, attached_among, counted_twice, joins, more_results, same_results}
pub use Rattle.routing_table.proofs.Tabled.{attached_somewhere, no_memory, on_err, on_ok}
