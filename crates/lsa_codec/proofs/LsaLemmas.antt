-- For callers: decoding of an accepted LSA, what made LSAs keep, and how long links are together.
pub use Rattle.lsa_codec.proofs.Complete.{decoded_again, decoded_front}
pub use Rattle.lsa_codec.proofs.Rewritten.{links_rewritten, metric_rewritten, summary_new, external_new}
pub use Rattle.lsa_codec.proofs.FieldsMade.{metric_fields}
pub use Rattle.lsa_codec.proofs.Relinked.{has_texts}
