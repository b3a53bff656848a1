use Rattle.std.proofs.Common.{◌≡◌, ◌-◌, ◌≤◌, false, vec_len}
use Rattle.std.specs.Io.KnownBytes.{Consumes}
use Rattle.host_io.specs.Watched.{has_failed, inner_of}
use Rattle.whole_study.specs.steps.Typing.{IsOneLine}
use Rattle.whole_study.proofs.typing.read_line.Given as goal

abbrev pub invariant-bytes : goal.invariant-bytes
invariant-bytes g l = record {
  still_open : has_failed l.input ≡ false;
  within : vec_len l.text ≤ l.limit;
  typed : Consumes (g.I.Read.remaining (inner_of l.initial.input)) (g.I.Read.remaining (inner_of l.input)) l.text.items;
  one : IsOneLine l.text.items;
}

abbrev pub decreases-bytes : goal.decreases-bytes
decreases-bytes g l = l.limit - vec_len l.text
