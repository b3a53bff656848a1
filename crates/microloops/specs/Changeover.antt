-- What may loop while routers change over from one forwarding graph of an address to another: each router sends by its match
-- before or by its match after, until all have changed over.
use Rattle.std.specs.Prelude.{◌↔◌, ◌++◌, Bool, if◌then◌else◌, List, Contains, map}
use Rattle.lsa_codec.specs.declared.address.RouterId.{RouterId}
use Rattle.forwarding.specs.Graphs.{StepValue, next_in}
use Rattle.forwarding.specs.Walks.{AreLoops, IsOnCycle}

-- ---- loops of a graph

-- the routers of the loops are those that walks come back to
abbrev pub AreOnLoops : (RouterId → List RouterId) → List (List RouterId) → Type 0
AreOnLoops next loops = (router : RouterId) → ((loop : List RouterId) × Contains loops loop × Contains loop router) ↔ IsOnCycle next router

-- these are all loops, in order of their least routers
pub record AreAllLoops (next : RouterId → List RouterId) (routers : List RouterId) (found : List (List RouterId)) : Type 0 where
  pub loops : AreLoops next routers found
  pub members : AreOnLoops next found

-- ---- of two graphs

-- the routers of a graph
abbrev pub routers_of : List StepValue → List RouterId
routers_of graph = map (λ s. s.router) graph

module _ (before after : List StepValue) where
  -- the routers of either graph
  abbrev pub routers_in_either : List RouterId
  routers_in_either = routers_of before ++ routers_of after

  -- the routers to which a router sends before or after
  abbrev pub next_in_either : RouterId → List RouterId
  next_in_either router = next_in before router ++ next_in after router

  -- the routers to which a router sends while some have changed over
  abbrev pub next_amid : (RouterId → Bool) → RouterId → List RouterId
  next_amid has_changed router = if has_changed router then next_in after router else next_in before router

  -- packets may come back to a router at some time: when some routers have changed over, and others have not
  abbrev pub MayLoop : RouterId → Type 0
  MayLoop router = (has_changed : RouterId → Bool) × IsOnCycle (next_amid has_changed) router

  -- these are the loops of the two graphs together
  abbrev pub AreMicroloops : List (List RouterId) → Type 0
  AreMicroloops loops = AreAllLoops next_in_either routers_in_either loops
