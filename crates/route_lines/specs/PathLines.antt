-- What becomes of a packet, as studies show it.
use Rattle.std.specs.Prelude.{List}
use Rattle.lsa_codec.specs.declared.address.RouterId.{RouterId}
use Rattle.route_lines.specs.declared.path_end.PathEnd.{PathEnd}
use Rattle.route_lines.specs.declared.path_step.PathStep.{PathStep}

-- the routers that walks reach, what each does, how the walks end, and the loops that they reach
pub record PathValue : Type 0 where
  pub routers : List RouterId
  pub steps : List PathStep
  pub ends : List PathEnd
  pub loops : List (List RouterId)
