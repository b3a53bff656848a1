use Rattle.std.proofs.Common.{rules}
use Rattle.host_io.proofs.PrefixLemmas.{Appends-take}
use Rattle.host_io.proofs.writing.write_whole.Goals as goal

pub writes-preserved : goal.writes-preserved
writes-preserved g c = record {
  still_open = search rules;
  within = search rules;
  appended = Appends-take _ _ _ _ _ _ c.writes.invariant.appended c.in-Ok.ensures.bytes;
  flushed = search rules;
}
