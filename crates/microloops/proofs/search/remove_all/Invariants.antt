use Rattle.std.proofs.Common.{◌≡◌, take}
use Rattle.std.specs.Prelude.{◌&&◌, not}
use Rattle.std.specs.BTreeSet.{contains}
use Rattle.std.specs.List.{list_any}
use Rattle.std.specs.Ordering.{eq_by_cmp}
use Rattle.lsa_codec.specs.Order.{router_cmp}
use Rattle.lsa_codec.specs.declared.address.RouterId.{RouterId}
use Rattle.microloops.proofs.search.remove_all.Given as goal

-- the routers so far were taken out
abbrev pub invariant-loop-router : goal.invariant-loop-router
invariant-loop-router g l =
    (v : RouterId) → contains router_cmp l.set v ≡ (contains router_cmp l.initial.set v && not (list_any (eq_by_cmp router_cmp v) (take l.router-index l.routers)))
