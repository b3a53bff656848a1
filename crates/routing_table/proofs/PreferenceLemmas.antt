-- For callers: the route that the preferred routes have to a prefix.
pub use Rattle.routing_table.proofs.Preferred.{route_all, route_preferring}
