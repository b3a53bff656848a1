-- Prefixes, for callers: what is written is read back.
pub use Rattle.edit_script.proofs.Prefixes.{prefix_again}
