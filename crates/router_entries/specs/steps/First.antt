-- The first of what was found so far.
use Rattle.std.specs.Prelude.{Option, None, Some}
use Rattle.area_graph.specs.Least.{later}
use Rattle.router_entries.specs.declared.own_external.OwnExternal.{OwnExternal}
use Rattle.router_entries.specs.OwnExternals.{own_cmp}

-- with one more, if there is one
abbrev pub first_with : Option OwnExternal → Option OwnExternal → Option OwnExternal
first_with found None = found
first_with found (Some more) = Some (later own_cmp found more)
