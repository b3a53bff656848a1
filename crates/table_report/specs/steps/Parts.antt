-- The parts of the line of a route after its prefix.
use Rattle.std.specs.Prelude.{ℕ, List, ◌∷◌, ◌++◌, codes, decimal}
use Rattle.next_hops.specs.declared.hop.Hop.{Hop}
use Rattle.next_hops.specs.Hop.{hop_text}
use Rattle.best_ways.specs.Values.{RouteValue}
use Rattle.table_report.specs.Texts.{area_text, hops_text, kind_text}

-- the type of the paths and their costs, and a space
abbrev pub paths_text : RouteValue → List ℕ
paths_text r = kind_text r.kind ++ codes " " ++ decimal r.cost ++ codes " " ++ decimal r.cost2 ++ codes " "

-- the area and the hops
abbrev pub ways_text : RouteValue → List ℕ
ways_text r = area_text r.areas ++ codes " " ++ hops_text r.hops

-- a hop after a comma
abbrev pub hop_after : Hop → List ℕ
hop_after hop = 44 ∷ hop_text hop
