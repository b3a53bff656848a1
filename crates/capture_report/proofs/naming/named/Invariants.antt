use Rattle.std.proofs.Common.{◌≡◌, map}
use Rattle.std.specs.List.{flat_map}
use Rattle.capture_report.specs.Naming.{named_by}
use Rattle.capture_report.proofs.naming.named.Given as goal

abbrev pub invariant-loop-lsa : goal.invariant-loop-lsa
invariant-loop-lsa g l = l.named.items ≡ flat_map (named_by l.node) (map (λ lsa. lsa.now) l.yielded)
