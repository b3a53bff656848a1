use Rattle.std.proofs.Common.{◌≡◌, ◌++◌, take}
use Rattle.link_report.specs.Links.{links_in_areas}
use Rattle.link_report.proofs.link_line.push_links_in_areas.Given as goal

-- the links in the areas so far
abbrev pub invariant-loop-area : goal.invariant-loop-area
invariant-loop-area g l = l.lines.items ≡ l.initial.lines.items ++ links_in_areas (take l.area-index l.areas) l.router
