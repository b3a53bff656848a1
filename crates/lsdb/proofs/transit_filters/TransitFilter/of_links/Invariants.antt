use Rattle.std.proofs.Common.{◌≡◌}
use Rattle.lsdb.specs.steps.Filtering.{no_networks, with_links}
use Rattle.lsdb.proofs.transit_filters.TransitFilter.of_links.Given as goal

-- the networks of the links so far
abbrev pub invariant-loop-link : goal.invariant-loop-link
invariant-loop-link l = l.filter ≡ with_links no_networks l.yielded
