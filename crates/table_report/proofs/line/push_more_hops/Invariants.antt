use Rattle.std.proofs.Common.{◌≡◌, ◌++◌, take}
use Rattle.std.specs.Prelude.{flat_map}
use Rattle.std.specs.String.{string_bytes}
use Rattle.table_report.specs.steps.Parts.{hop_after}
use Rattle.table_report.proofs.line.push_more_hops.Given as goal

abbrev pub invariant-loop-hop : goal.invariant-loop-hop
invariant-loop-hop g l = string_bytes l.text ≡ string_bytes l.initial.text ++ flat_map hop_after (take l.hop-index l.hops)
