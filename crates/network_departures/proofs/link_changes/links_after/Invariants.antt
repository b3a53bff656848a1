use Rattle.std.proofs.Common.{◌≡◌, map}
use Rattle.lsdb.specs.Slots.{lists_of}
use Rattle.network_departures.specs.LinksAfter.{link_after}
use Rattle.network_departures.proofs.link_changes.links_after.Given as goal

-- the links so far
abbrev pub invariant-loop-link : goal.invariant-loop-link
invariant-loop-link g l =
    l.links.items ≡ map (λ link. record { link = link; change = link_after (lists_of l.database) l.event l.area l.networks l.router link }) l.yielded
