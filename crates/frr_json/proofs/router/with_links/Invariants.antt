use Rattle.std.proofs.Common.{◌≡◌, drop}
use Rattle.frr_json.specs.Bodies.{link_bytes_in}
use Rattle.frr_json.proofs.Joined.{with_each}
use Rattle.frr_json.proofs.router.with_links.Given as goal

abbrev pub invariant-links : goal.invariant-links
invariant-links g l =
    with_each link_bytes_in l.bytes.items (drop l.member-index l.members) ≡ with_each link_bytes_in l.initial.bytes.items l.members
