use Rattle.std.proofs.Common.{◌≡◌, ◌-◌}
use Rattle.std.specs.Int.{w32, to_be_bytes}
use Rattle.frr_text.specs.Words.{words}
use Rattle.frr_text.specs.Bodies.{attached_in}
use Rattle.frr_text.proofs.Reading.{with_times}
use Rattle.frr_text.proofs.network.with_routers.Given as goal

abbrev pub invariant-routers : goal.invariant-routers
invariant-routers g l =
    with_times attached_in (to_be_bytes w32) l.bytes.items (l.count - l._read) (words l.rest)
    ≡ with_times attached_in (to_be_bytes w32) l.initial.bytes.items l.count (words l.text)
