-- The routers from which each walk passes one router, found one after another.
use Rattle.std.specs.Prelude.{◌≡◌, ◌≤◌, Bool, true, false, ◌&&◌, not, ◌⊎◌, List, length, Option, None, Some, All, Contains}
use Rattle.std.specs.List.{list_all, list_any}
use Rattle.std.specs.Option.{option_map_or}
use Rattle.std.specs.Ordering.{eq_by_cmp}
use Rattle.lsa_codec.specs.Order.{router_cmp}
use Rattle.lsa_codec.specs.declared.address.RouterId.{RouterId}
use Rattle.hop_ends.specs.declared.way.Way.{Way}
use Rattle.forwarding.specs.Graphs.{StepValue, step_at}
use Rattle.hop_ends.specs.Ways.{router_over}
use Rattle.route_report.specs.Passing.{IsPassed, ends_by}

abbrev pub has_router : List RouterId → RouterId → Bool
has_router routers router = list_any (eq_by_cmp router_cmp router) routers

-- a way ends, or leads to one of these routers
abbrev pub leads_into : List RouterId → Way → Bool
leads_into sure way = option_map_or (has_router sure) (router_over way) true

abbrev pub leads_only_into : List RouterId → StepValue → Bool
leads_only_into sure s = option_map_or (λ m. list_all (leads_into sure) m.ways) s.matched true

-- walks from a router go on to these alone
abbrev pub sure_by : List RouterId → Option StepValue → Bool
sure_by sure None = true
sure_by sure (Some s) = not (ends_by s) && leads_only_into sure s

module _ (graph : List StepValue) where
  abbrev pub is_sure : List RouterId → RouterId → Bool
  is_sure sure router = sure_by sure (step_at graph router)

  -- from each of these, each walk passes this router
  pub record AreSure (target : RouterId) (sure : List RouterId) : Type 0 where
    pub passed : (v : RouterId) → Contains sure v → IsPassed graph v target

  -- a router is one of these, or from it some walk may go elsewhere
  abbrev pub IsSettled : List RouterId → RouterId → Type 0
  IsSettled sure router = (has_router sure router ≡ true) ⊎ (is_sure sure router ≡ false)

  -- some of these routers are added, those from which walks go on to such alone: all of them, where none is added
  pub record Adds (routers old new : List RouterId) : Type 0 where
    pub sure : (target : RouterId) → AreSure target old → AreSure target new
    pub kept : (v : RouterId) → Contains old v → Contains new v
    pub more : length old ≤ length new
    pub settled : length new ≡ length old → (new ≡ old) × All (IsSettled new) routers
