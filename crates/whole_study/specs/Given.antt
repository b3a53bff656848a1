-- What a run is given: the bytes of its inputs.
use Rattle.std.specs.Prelude.{ℕ, List, Option}

-- a study: its name, as it was given, and its text
pub record NamedText : Type 0 where
  pub name : List ℕ
  pub text : List ℕ

-- the dump, the baseline and the names file, if they are given, and the studies in their order
pub record Given : Type 0 where
  pub dump : List ℕ
  pub baseline : Option (List ℕ)
  pub names : Option (List ℕ)
  pub studies : List NamedText
