-- How routes and router entries are looked up.
use Rattle.std.specs.Prelude.{◌≡◌, ℕ, ◌-◌, ◌≤◌, ◌==◌, ◌^◌, Bool, true, false, if◌then◌else◌, List, All, Option, Some, length, slice_get, slice_index_or, take}
use Rattle.std.specs.BTreeMap.{BTreeMap, get}
use Rattle.std.specs.Option.{option_and_then, option_map_or}
use Rattle.std.specs.Ordering.{is_lt}
use Rattle.lsa_codec.specs.declared.address.RouterId.{RouterId}
use Rattle.lsa_codec.specs.Order.{prefix_cmp, router_cmp}
use Rattle.lsa_codec.specs.Prefix.{Net}
use Rattle.area_routes.specs.Values.{EntryValue, EntriesBelow}
use Rattle.best_ways.specs.Values.{RouteValue, RoutesBelow}
use Rattle.external_routes.specs.Choose.{preference, preferred}

-- the length of the route's prefix is at most 32, and it is marked
pub record IsMarked (marks : List Bool) (r : RouteValue) : Type 0 where
  pub short : r.net.len ≤ 32
  pub marked : slice_index_or marks r.net.len false ≡ true

-- the lengths of the routes' prefixes are marked
abbrev pub MarksLengths : List RouteValue → List Bool → Type 0
MarksLengths routes marks = All (IsMarked marks) routes

-- the entry with an index, if there is one
abbrev pub entry_at : List EntryValue → Option ℕ → Option EntryValue
entry_at entries index = option_and_then (λ i. slice_get entries i) index

-- whether an entry comes first: it is preferred to the other, if there is one
abbrev pub comes_first : EntryValue → Option EntryValue → Bool
comes_first entry other = option_map_or (λ e. is_lt (preference entry e)) other true

-- the map has for each router the index of its preferred entry among the first n
abbrev pub MapsPreferred : List EntryValue → ℕ → BTreeMap RouterId ℕ → Type 0
MapsPreferred entries n asbrs = (asbr : RouterId) → entry_at entries (get router_cmp asbrs asbr) ≡ preferred (take n entries) asbr

-- the routes and the router entries of a router inside the AS
pub record WaysInside : Type 0 where
  pub routes : List RouteValue
  pub entries : List EntryValue

-- all costs are below a bound
pub record WaysBelow (bound : ℕ) (ways : WaysInside) : Type 0 where
  pub routes : RoutesBelow bound ways.routes
  pub entries : EntriesBelow bound ways.entries

-- where an entry has this index, it is its router's preferred one
abbrev pub IsPreferred : List EntryValue → ℕ → Type 0
IsPreferred entries index = (e : EntryValue) → slice_get entries index ≡ Some e → Some e ≡ preferred entries e.router

-- all costs are below 2^34, the marks are those of the routes, the map is that of the entries, and the 256 entries that are
-- remembered are preferred ones
pub record IsInside (ways : WaysInside) (marks : List Bool) (asbrs : BTreeMap RouterId ℕ) (remembered : List ℕ) : Type 0 where
  pub below : WaysBelow (2 ^ 34) ways
  pub marked : MarksLengths ways.routes marks
  pub mapped : MapsPreferred ways.entries (length ways.entries) asbrs
  pub room : length remembered ≡ 256
  pub remembers : All (IsPreferred ways.entries) remembered

-- the prefix is greater than that of the route before a place
abbrev pub is_after : List RouteValue → ℕ → Net → Bool
is_after routes place net = if place == 0 then true else option_map_or (λ r. is_lt (prefix_cmp r.net net)) (slice_get routes (place - 1)) false

-- the prefix is less than that of the route at a place, if there is one
abbrev pub is_ahead : List RouteValue → ℕ → Net → Bool
is_ahead routes place net = option_map_or (λ r. is_lt (prefix_cmp net r.net)) (slice_get routes place) true
