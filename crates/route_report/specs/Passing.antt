-- What walks of a packet have to do.
use Rattle.std.specs.Prelude.{◌≡◌, ◌≤◌, ℕ, Bool, true, false, ◌||◌, not, List, ◌∷◌, length, Contains}
use Rattle.std.specs.List.{list_any}
use Rattle.std.specs.Option.{option_map_or}
use Rattle.lsa_codec.specs.declared.address.Addr.{Addr}
use Rattle.lsa_codec.specs.declared.address.RouterId.{RouterId}
use Rattle.lsdb.specs.Lists.{Lists}
use Rattle.forwarding.specs.Graphs.{StepValue, delivers, drops, graph_of, leaves_network, next_in, step_at}
use Rattle.forwarding.specs.Walks.{IsWalk, Reaches}
use Rattle.study_script.specs.declared.condition.Passing.{Passing}
use Rattle.study_script.specs.declared.condition.Passing.TheVariants.{Via, Avoids, Delivered}
use Rattle.route_lines.specs.declared.path_end.PathEnd.{PathEnd}
use Rattle.route_lines.specs.declared.path_end.PathEnd.TheVariants as of
use Rattle.route_lines.specs.PathLines.{PathValue}

-- a router ends walks: it delivers packets, they leave the network there, or it drops them
abbrev pub ends_by : StepValue → Bool
ends_by s = delivers s || (leaves_network s || drops s)

abbrev pub ends_walks : List StepValue → RouterId → Bool
ends_walks graph router = option_map_or ends_by (step_at graph router) false

module _ (graph : List StepValue) (start router : RouterId) where
  -- a walk over these steps from the start passes the router
  abbrev pub IsPassedBy : List RouterId → Type 0
  IsPassedBy us = Contains (start ∷ us) router

  -- each walk to a router that ends walks passes this router, and so does each walk that is long enough, and so each endless one
  pub record IsPassed : Type 0 where
    pub ended : (us : List RouterId) (last : RouterId) → IsWalk (next_in graph) start us last → ends_walks graph last ≡ true → IsPassedBy us
    pub endless : (n : ℕ) × ((us : List RouterId) (last : RouterId) → IsWalk (next_in graph) start us last → n ≤ length us → IsPassedBy us)

-- ends that are none: packets are dropped, or walks reach a loop
abbrev pub is_amiss : PathEnd → Bool
is_amiss of.Delivered = false
is_amiss of.External = false
is_amiss of.Blackhole = true
is_amiss of.Loop = true

-- packets are delivered, or leave the network
abbrev pub is_delivered : List PathEnd → Bool
is_delivered ends = not (list_any is_amiss ends)

-- what the walks of a path have to do
abbrev pub HoldsIn : List StepValue → RouterId → PathValue → Passing → Type 0
HoldsIn graph start path (Via router) = IsPassed graph start router
HoldsIn graph start path (Avoids router) = ¬ Reaches (next_in graph) start router
HoldsIn graph start path Delivered = is_delivered path.ends ≡ true

-- the same for the path of packets to an address
abbrev pub Holds : Lists → RouterId → Addr → PathValue → Passing → Type 0
Holds db start address path passing = HoldsIn (graph_of db address) start path passing
