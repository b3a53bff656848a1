-- For callers: slots that are written and opened, and which writes leave a database.
pub use Rattle.lsdb.proofs.SlotWrites.{slot_at-put, put-put, put-slot_at, slot_at-open_at, put-open_at, lists_of-open_at}
pub use Rattle.lsdb.proofs.Dominated.{put_safe, extended_safe, section_with, between, full-cons}
pub use Rattle.lsdb.proofs.Added.{with_lsa, Fits, lists-new, added_safe, split}
