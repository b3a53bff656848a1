use Rattle.std.proofs.Common.{◌≡◌, map}
use Rattle.std.specs.List.{filter_map}
use Rattle.lsa_codec.specs.Order.{prefix_cmp}
use Rattle.area_graph.specs.Rising.{rising}
use Rattle.forwarding.specs.OwnExternals.{announced}
use Rattle.forwarding.proofs.own_externals.own_externals.Given as goal

-- the prefixes of the LSAs so far
abbrev pub invariant-loop-lsa : goal.invariant-loop-lsa
invariant-loop-lsa g l = l.nets.keys ≡ rising prefix_cmp (filter_map (announced l.router) (map (λ lsa. lsa.now) l.yielded))
