use Rattle.std.proofs.Common.{◌≡◌, ◌++◌, take}
use Rattle.lsa_remaking.specs.Networks.{routers_text}
use Rattle.lsa_remaking.proofs.networks.with_routers_text.Given as goal

abbrev pub invariant-loop-router : goal.invariant-loop-router
invariant-loop-router g l = l.bytes.items ≡ l.front ++ routers_text (take l.router-index l.routers)
