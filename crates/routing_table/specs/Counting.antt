-- How often trees were calculated.
use Rattle.std.specs.Prelude.{◌≡◌, ◌≤◌, ℕ, zero, suc}
use Rattle.spf.specs.Distances.{counted}

-- a meter that was at n, after this number of calculations
abbrev pub counted_by : ℕ → ℕ → ℕ
counted_by zero n = n
counted_by (suc k) n = counted (counted_by k n)

-- a meter counted some calculations, and at most this number of them
pub record CountsAtMost (most old new : ℕ) : Type 0 where
  pub trees : ℕ
  pub few : trees ≤ most
  pub counts : new ≡ counted_by trees old
