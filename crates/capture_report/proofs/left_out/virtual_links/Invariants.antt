use Rattle.std.proofs.Common.{◌≡◌, map}
use Rattle.std.specs.List.{flat_map}
use Rattle.capture_report.specs.LeftOut.{virtual_links}
use Rattle.capture_report.proofs.left_out.virtual_links.Given as goal

abbrev pub invariant-loop-lsa : goal.invariant-loop-lsa
invariant-loop-lsa g l = l.found.items ≡ flat_map virtual_links (map (λ lsa. lsa.now) l.yielded)
