-- The routers that next hops lead to, worked out once for each router.
use Rattle.std.specs.Prelude.{◌≡◌, All, List}
use Rattle.lsa_codec.specs.declared.address.RouterId.{RouterId}
use Rattle.lsdb.specs.Lists.{Lists}
use Rattle.next_hops.specs.declared.hop.Hop.{Hop}
use Rattle.hop_ends.specs.Owners.{targets_of}

-- a next hop with routers
pub record TargetsValue : Type 0 where
  pub hop : Hop
  pub routers : List RouterId

-- a router with next hops of its own
pub record RouterHopsValue : Type 0 where
  pub router : RouterId
  pub hops : List TargetsValue

-- the routers are those that the next hop leads to
abbrev pub AreTargets : Lists → RouterId → TargetsValue → Type 0
AreTargets db router known = known.routers ≡ targets_of db router known.hop

-- those of all the next hops are
abbrev pub AreHopsOf : Lists → RouterHopsValue → Type 0
AreHopsOf db known = All (AreTargets db known.router) known.hops
