use Rattle.std.proofs.Common.{◌≡◌, ◌-◌}
use Rattle.frr_text.specs.Words.{words}
use Rattle.frr_text.specs.Bodies.{link_in, link_bytes}
use Rattle.frr_text.proofs.Reading.{with_times}
use Rattle.frr_text.proofs.router.with_links.Given as goal

abbrev pub invariant-links : goal.invariant-links
invariant-links g l =
    with_times link_in link_bytes l.bytes.items (l.count - l._read) (words l.rest)
    ≡ with_times link_in link_bytes l.initial.bytes.items l.count (words l.text)
