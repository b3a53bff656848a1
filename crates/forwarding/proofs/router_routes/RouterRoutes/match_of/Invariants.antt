use Rattle.std.proofs.Common.{◌≡◌, ℕ, ◌+◌, ◌<◌, ◌≤◌, None}
use Rattle.lsdb.specs.Lists.{Lists}
use Rattle.lsa_codec.specs.Prefix.{masked}
use Rattle.forwarding.specs.Matches.{entry_for}
use Rattle.hop_ends.specs.Owners.{AreGraphsOf}
use Rattle.forwarding.proofs.router_routes.RouterRoutes.match_of.Given as goal

-- no prefix that covers the address and has one of the lengths so far has an entry
abbrev pub invariant-loop-shorter : goal.invariant-loop-shorter
invariant-loop-shorter g l = (db : Lists) → AreGraphsOf db l.graphs → (len : ℕ) → 32 < len + l.shorter → len ≤ 32
    → entry_for db l.self (masked l.address len) ≡ None
