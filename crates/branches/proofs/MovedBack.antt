-- The database before the last edits, where they are done.
use Rattle.std.proofs.Common.{◌≡◌, ℕ, ◌≤◌, length, Some, refl}
use Rattle.std.proofs.lemmas.Bool.{le-leb}
use Rattle.edit_history.specs.Session.{Session, moved_back, state}
use Rattle.branches.specs.Branches.{before_last}

pub before_is : (s : Session) (count : ℕ) → count ≤ length s.done → before_last count s ≡ Some (state (moved_back count s))
before_is s count enough = rw (le-leb count (length s.done) enough) refl
