-- Counts of answers, and how far they may grow.
use Rattle.std.specs.Prelude.{ℕ, ◌+◌, ◌^◌, ◌<◌, ◌≤◌}
use Rattle.whole_study.specs.declared.summary.Summary.{Summary}

-- no count is more than that of the lines
pub record AreCounts (summary : Summary) : Type 0 where
  pub refused : summary.refused ≤ summary.lines
  pub expectations : summary.expectations ≤ summary.lines
  pub failed : summary.failed ≤ summary.lines

-- this number of lines can still be counted
pub record HasRoom (most : ℕ) (summary : Summary) : Type 0 where
  pub counts : AreCounts summary
  pub room : summary.lines + most < 2 ^ 64

-- at most this number of lines was counted
pub record Grows (most : ℕ) (before after : Summary) : Type 0 where
  pub counts : AreCounts after
  pub lines : after.lines ≤ before.lines + most
