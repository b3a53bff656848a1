-- The router that has a number in a graph.
use Rattle.std.specs.Prelude.{ℕ, Option, slice_get}
use Rattle.std.specs.Option.{option_and_then}
use Rattle.lsa_codec.specs.declared.address.RouterId.{RouterId}
use Rattle.area_graph.specs.Topology.{Topology}
use Rattle.audit_areas.specs.Areas.{router_of}

abbrev pub router_at : Topology → ℕ → Option RouterId
router_at t n = option_and_then router_of (slice_get t.vertices n)
