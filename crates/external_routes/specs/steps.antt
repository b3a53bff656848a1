-- Definitions that only the contracts of private functions cite: how routes and router entries are
-- looked up.
pub mod Lookup
pub mod Paths
