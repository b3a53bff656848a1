use Rattle.std.proofs.Common.{◌≡◌, ◌++◌, take}
use Rattle.std.specs.Int.{w32, to_be_bytes}
use Rattle.std.specs.List.{flat_map}
use Rattle.test_support.proofs.list.network_body.Given as goal

abbrev pub invariant-loop-router : goal.invariant-loop-router
invariant-loop-router l = l.body.items ≡ to_be_bytes w32 l.mask ++ flat_map (to_be_bytes w32) (take l.router-index l.attached)
