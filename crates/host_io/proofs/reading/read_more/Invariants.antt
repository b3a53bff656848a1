use Rattle.std.proofs.Common.{◌≡◌, ◌+◌, ◌-◌, ◌≤◌, ℕ, List, ◌++◌, false, length, vec_len}
use Rattle.std.specs.Io.KnownBytes.{Consumes}
use Rattle.host_io.specs.Watched.{inner_of, has_failed, has_ended}
use Rattle.host_io.proofs.reading.read_more.Given as goal

abbrev pub invariant-chunks : goal.invariant-chunks
invariant-chunks g l = record {
  still_open : has_failed l.reader ≡ false;
  not_ended : has_ended l.reader ≡ has_ended l.initial.reader;
  read : (taken : List ℕ)
      × (Consumes (g.R.Read.remaining (inner_of l.initial.reader)) (g.R.Read.remaining (inner_of l.reader)) taken
      × ((l.bytes.items ≡ l.initial.bytes.items ++ taken) × (length taken ≤ l.limit + 1 - vec_len l.initial.bytes)));
}

abbrev pub decreases-chunks : goal.decreases-chunks
decreases-chunks g l = l.limit + 1 - vec_len l.bytes
