use Rattle.std.proofs.Common.{◌≡◌, ◌-◌, ◌≤◌, ◌&&◌, ◌==◌, false, length, take}
use Rattle.std.specs.Io.KnownBytes.{Appends}
use Rattle.host_io.specs.Watched.{inner_of, has_failed, is_flushed}
use Rattle.host_io.proofs.writing.write_whole.Given as goal

abbrev pub invariant-writes : goal.invariant-writes
invariant-writes g l = record {
  still_open : has_failed l.writer ≡ false;
  within : l.at ≤ length l.text;
  appended : Appends (g.W.Write.contents (inner_of l.initial.writer)) (g.W.Write.contents (inner_of l.writer)) (take l.at l.text);
  flushed : is_flushed l.writer ≡ (is_flushed l.initial.writer && (l.at == 0));
}

abbrev pub decreases-writes : goal.decreases-writes
decreases-writes g l = length l.text - l.at
