-- Counts of LSAs that come and go.
use Rattle.std.specs.Prelude.{◌+◌, ◌-◌, ◌^◌, ◌<◌, ◌≤◌}
use Rattle.lsdb.specs.declared.counts.LsaCounts.{LsaCounts}

abbrev pub with_counts : LsaCounts → LsaCounts → LsaCounts
with_counts counts come = record {
  lsas = counts.lsas + come.lsas;
  virtual_ends = counts.virtual_ends + come.virtual_ends;
  virtual_links = counts.virtual_links + come.virtual_links;
}

abbrev pub without_counts : LsaCounts → LsaCounts → LsaCounts
without_counts counts gone = record {
  lsas = counts.lsas - gone.lsas;
  virtual_ends = counts.virtual_ends - gone.virtual_ends;
  virtual_links = counts.virtual_links - gone.virtual_links;
}

-- the sums fit
pub record CanAdd (counts come : LsaCounts) : Type 0 where
  pub lsas : counts.lsas + come.lsas < 2 ^ 64
  pub virtual_ends : counts.virtual_ends + come.virtual_ends < 2 ^ 64
  pub virtual_links : counts.virtual_links + come.virtual_links < 2 ^ 64

-- what goes was counted
pub record CanTake (counts gone : LsaCounts) : Type 0 where
  pub lsas : gone.lsas ≤ counts.lsas
  pub virtual_ends : gone.virtual_ends ≤ counts.virtual_ends
  pub virtual_links : gone.virtual_links ≤ counts.virtual_links
