use Rattle.std.proofs.Common.{◌≡◌, ℕ, ◌<◌, ◌≤◌, false}
use Rattle.lsa_codec.specs.Prefix.{masked}
use Rattle.forwarding.specs.Matches.{has_net}
use Rattle.loop_report.proofs.falling.none_covers.Given as goal

-- none of these lengths so far
abbrev pub invariant-loop-len : goal.invariant-loop-len
invariant-loop-len g l = (len : ℕ) → l.fn.least ≤ len → len < l.len → has_net l.nets.keys (masked l.address len) ≡ false
