use Rattle.std.proofs.Common.{◌≡◌, ℕ, ◌+◌, ◌<◌, ◌≤◌, None}
use Rattle.lsa_codec.specs.Prefix.{masked}
use Rattle.loop_report.specs.steps.Falling.{source_for}
use Rattle.loop_report.proofs.falling.source_of.Given as goal

-- no prefix that covers the address and has one of the lengths so far has an entry
abbrev pub invariant-loop-shorter : goal.invariant-loop-shorter
invariant-loop-shorter g l = (len : ℕ) → 32 < len + l.shorter → len ≤ 32 → source_for l.routes (masked l.address len) ≡ None
