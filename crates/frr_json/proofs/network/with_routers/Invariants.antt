use Rattle.std.proofs.Common.{◌≡◌, drop}
use Rattle.frr_json.specs.Bodies.{attached_bytes_in}
use Rattle.frr_json.proofs.Joined.{with_each}
use Rattle.frr_json.proofs.network.with_routers.Given as goal

abbrev pub invariant-routers : goal.invariant-routers
invariant-routers g l =
    with_each attached_bytes_in l.bytes.items (drop l.member-index l.members)
    ≡ with_each attached_bytes_in l.initial.bytes.items l.members
