use Rattle.std.proofs.Common.{◌≡◌, ℕ, ◌<◌, false}
use Rattle.lsa_codec.specs.Prefix.{masked}
use Rattle.forwarding.specs.Matches.{has_net}
use Rattle.loop_report.proofs.atoms.Atoms.longer.Given as goal

-- none of these lengths so far
abbrev pub invariant-loop-len : goal.invariant-loop-len
invariant-loop-len g l = (longer : ℕ) → l.fn.net.len < longer → longer < l.len → has_net l.self (masked l.address longer) ≡ false
