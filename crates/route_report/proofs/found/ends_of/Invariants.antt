use Rattle.std.proofs.Common.{◌≡◌, take}
use Rattle.std.specs.List.{flat_map}
use Rattle.lsdb.specs.Slots.{lists_of}
use Rattle.route_report.specs.LinksOver.{ends_on}
use Rattle.route_report.proofs.found.ends_of.Given as goal

-- those of the links so far
abbrev pub invariant-loop-own : goal.invariant-loop-own
invariant-loop-own g l = l.ends.items ≡ flat_map (ends_on (lists_of l.database) l.side l.router l.area) (take l.own-index l.links)
