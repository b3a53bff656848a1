-- The greatest Advertising Router for each Link State ID of network-LSAs.
use Rattle.std.specs.Prelude.{◌≡◌, ℕ, Bool, false, ◌==◌, nat_lt, if◌then◌else◌, List, Option, None, Some}
use Rattle.std.specs.List.{list_any}
use Rattle.std.specs.HashMap.{HashMap, get}
use Rattle.lsa_codec.specs.declared.address.Addr.{Addr}
use Rattle.lsa_codec.specs.declared.address.RouterId.{RouterId}
use Rattle.area_graph.specs.Area.{outranks}

abbrev pub same_address : Addr → Addr → Bool
same_address a b = a.0 == b.0

-- the entry of a map for a Link State ID
abbrev pub rank_in : {S : Type 0} → HashMap Addr RouterId S → ℕ → Option RouterId
rank_in ranks id = get same_address ranks (record { 0 = id })

abbrev pub exceeds : ℕ → Option RouterId → Bool
exceeds router None = false
exceeds router (Some greatest) = nat_lt router greatest.0

-- the rank of an ID once that of the network is this router
abbrev pub ranked : ℕ → RouterId → ℕ → Option RouterId → Option RouterId
ranked network router id old = if network == id then Some router else old

-- the ranks are those of these LSAs: a router is below the rank of an ID exactly where an LSA of that ID
-- outranks it
abbrev pub AreRanksOf : {S : Type 0} → List (List ℕ) → HashMap Addr RouterId S → Type 0
AreRanksOf lsas ranks = (id router : ℕ) → list_any (outranks id router) lsas ≡ exceeds router (rank_in ranks id)
