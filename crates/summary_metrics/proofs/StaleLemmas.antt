-- For callers: the properties of stale summary-LSAs.
pub use Rattle.summary_metrics.proofs.Passes.{stale_summary}
