-- The texts of what a script leaves.
use Rattle.std.specs.Prelude.{◌≡◌, ℕ, List, true}
use Rattle.whole_run.specs.declared.leaving.Left.{Left}
use Rattle.whole_run.specs.declared.leaving.Wanted.{Wanted}

-- of the dump and of the saved session each that is wanted is there
pub record HasTexts {A : Type 0} (wanted : Wanted) (left : Left A) (dump_text session_text : List ℕ) : Type 0 where
  pub dump : wanted.dump ≡ true → left.dump.items ≡ dump_text
  pub session : wanted.session ≡ true → left.session.items ≡ session_text
