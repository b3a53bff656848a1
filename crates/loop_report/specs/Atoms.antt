-- Atoms: the addresses of a prefix that no longer prefix covers, among the prefixes of all entries in two databases.
use Rattle.std.specs.Prelude.{◌≡◌, ◌<◌, ◌≤◌, ◌^◌, ◌++◌, ℕ, true, false, List}
use Rattle.std.specs.List.{flat_map}
use Rattle.lsa_codec.specs.Order.{prefix_cmp}
use Rattle.lsa_codec.specs.Prefix.{Net, masked}
use Rattle.lsa_codec.specs.declared.address.Addr.{Addr}
use Rattle.lsdb.specs.Lists.{Lists}
use Rattle.area_graph.specs.Rising.{rising}
use Rattle.best_ways.specs.Routes.{nets}
use Rattle.forwarding.specs.Graphs.{routers_of}
use Rattle.forwarding.specs.Matches.{RouterValue, has_net}

-- ---- prefixes

-- the prefixes of a router's entries: of the routes of its table, and of its own AS-external-LSAs
abbrev pub nets_of : RouterValue → List Net
nets_of r = nets r.routes ++ r.own

-- those of some routers
abbrev pub nets_of_all : List RouterValue → List Net
nets_of_all routers = flat_map nets_of routers

-- the prefixes of the entries of all attached routers in either of two databases, in order, each once
abbrev pub nets_in_either : Lists → Lists → List Net
nets_in_either was is = rising prefix_cmp (nets_of_all (routers_of was) ++ nets_of_all (routers_of is))

-- ---- addresses

-- a longer prefix than one of this length covers the address
pub record IsLonger (nets : List Net) (len : ℕ) (address : Addr) (longer : Net) : Type 0 where
  pub more : len < longer.len
  pub short : longer.len ≤ 32
  pub covers : masked address longer.len ≡ longer
  pub among : has_net nets longer ≡ true

-- none does
abbrev pub NoneLonger : List Net → ℕ → Addr → Type 0
NoneLonger nets len address = (longer : ℕ) → len < longer → longer ≤ 32 → has_net nets (masked address longer) ≡ false

-- the address is in the atom of the prefix: the prefix covers it, and no longer one does
pub record IsInAtom (nets : List Net) (net : Net) (address : Addr) : Type 0 where
  pub number : address.0 < 2 ^ 32
  pub short : net.len ≤ 32
  pub covers : masked address net.len ≡ net
  pub longest : NoneLonger nets net.len address

-- longer prefixes cover all addresses of the prefix
abbrev pub IsEmptyAtom : List Net → Net → Type 0
IsEmptyAtom nets net = (address : Addr) → ¬ IsInAtom nets net address
