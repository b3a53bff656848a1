-- The ways of a router's match.
use Rattle.std.specs.Prelude.{List, [], Option}
use Rattle.std.specs.Option.{option_map_or}
use Rattle.forwarding.specs.Graphs.{StepValue}
use Rattle.hop_ends.specs.declared.way.Way.{Way}

abbrev pub ways_of : Option StepValue → List Way
ways_of step = option_map_or (λ s. option_map_or (λ m. m.ways) s.matched []) step []
