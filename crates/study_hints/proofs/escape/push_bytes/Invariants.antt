use Rattle.std.proofs.Common.{◌≡◌, ◌++◌, take}
use Rattle.std.specs.Prelude.{flat_map}
use Rattle.study_hints.specs.Escaped.{escaped_byte}
use Rattle.study_hints.proofs.escape.push_bytes.Given as goal

abbrev pub invariant-loop-byte : goal.invariant-loop-byte
invariant-loop-byte g l = l.text.items ≡ l.initial.text.items ++ flat_map escaped_byte (take l.byte-index l.bytes)
