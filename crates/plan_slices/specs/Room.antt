-- The room that a host has for a text.
use Rattle.std.specs.Prelude.{◌≡◌, ◌≤◌, ℕ, List, ◌++◌, drop, length}

-- a room has a text at its front, and after it what it had before
pub record IsCopied (text old new : List ℕ) : Type 0 where
  pub fits : length text ≤ length old
  pub bytes : new ≡ text ++ drop (length text) old
