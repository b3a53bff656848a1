use Rattle.std.proofs.Common.{◌-◌, length}
use Rattle.capture_files.specs.Pcapng.{state_of, Reaches}
use Rattle.capture_files.proofs.pcapng.read_blocks.Given as goal

abbrev pub invariant-walk : goal.invariant-walk
invariant-walk g l = Reaches l.file (state_of l.reading) l.offset

abbrev pub decreases-walk : goal.decreases-walk
decreases-walk g l = length l.file - l.offset
