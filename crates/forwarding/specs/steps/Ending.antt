-- The ends at routers, one after another.
use Rattle.std.specs.Prelude.{◌≡◌, false, ◌||◌, List, Option}
use Rattle.std.specs.List.{list_any}
use Rattle.std.specs.Option.{option_map_or}
use Rattle.lsa_codec.specs.declared.address.RouterId.{RouterId}
use Rattle.forwarding.specs.declared.ends.Ends.{Ends}
use Rattle.forwarding.specs.Graphs.{StepValue, delivers, drops, leaves_network, passes_at}

-- the ends at a router, if it is in the graph
abbrev pub ends_at : Option StepValue → Ends
ends_at step = record {
  is_delivered = option_map_or delivers step false;
  is_external = option_map_or leaves_network step false;
  is_blackhole = option_map_or drops step false;
}

-- those of no walk
abbrev pub no_ends : Ends
no_ends = record { is_delivered = false; is_external = false; is_blackhole = false }

-- the ends of two sets of walks
abbrev pub either : Ends → Ends → Ends
either a b = record {
  is_delivered = a.is_delivered || b.is_delivered;
  is_external = a.is_external || b.is_external;
  is_blackhole = a.is_blackhole || b.is_blackhole;
}

-- the ends at some routers
pub record HaveEnds (graph : List StepValue) (routers : List RouterId) (ends : Ends) : Type 0 where
  pub delivered : ends.is_delivered ≡ list_any (passes_at delivers graph) routers
  pub external : ends.is_external ≡ list_any (passes_at leaves_network graph) routers
  pub blackhole : ends.is_blackhole ≡ list_any (passes_at drops graph) routers
