-- The entries of area border routers and AS boundary routers of an area (RFC 2328, 16.1 and A.4.2).
use Rattle.std.specs.Prelude.{ℕ, Bool, ◌&&◌, ◌==◌, not, bit_and, if◌then◌else◌, List, [], ◌∷◌, ◌++◌, flat_map}
use Rattle.lsa_codec.specs.declared.address.AreaId.{AreaId}
use Rattle.lsa_codec.specs.declared.address.RouterId.{RouterId}
use Rattle.lsa_codec.specs.Fields.{byte_at, link_state_id_of}
use Rattle.area_graph.specs.Area.{is_router_lsa}
use Rattle.area_routes.specs.declared.entry.EntryKind.{EntryKind}
use Rattle.area_routes.specs.declared.entry.EntryKind.TheVariants.{Border, AsbrIntra}
use Rattle.area_routes.specs.Values.{EntryValue}
use Rattle.area_routes.specs.Reached.{ReachedValue}
use Rattle.area_routes.specs.Stubs.{is_lsa_of}

-- the flags of a router-LSA
abbrev pub flags_of : List ℕ → ℕ
flags_of lsa = byte_at 20 lsa

abbrev pub has_bit : ℕ → ℕ → Bool
has_bit bit flags = not (bit_and flags bit == 0)

-- bit B, of an area border router
abbrev pub bit_b : ℕ
bit_b = 1

-- bit E, of an AS boundary router
abbrev pub bit_e : ℕ
bit_e = 2

-- the entry of a router that is reached
abbrev pub reached_entry : AreaId → ReachedValue → EntryKind → EntryValue
reached_entry area r kind = record { router = record { 0 = link_state_id_of r.lsa }; area = area; kind = kind; cost = r.distance; hops = r.hops }

-- the entry by a bit
abbrev pub entry_by : AreaId → ReachedValue → ℕ → EntryKind → List EntryValue
entry_by area r bit kind = if has_bit bit (flags_of r.lsa) then reached_entry area r kind ∷ [] else []

-- the entries of a router: none of the calculating router itself
abbrev pub entries_of : AreaId → RouterId → ReachedValue → List EntryValue
entries_of area root r =
    if is_router_lsa r.lsa && not (is_lsa_of root r.lsa) then entry_by area r bit_b Border ++ entry_by area r bit_e AsbrIntra else []

-- the entries of all routers, in the order of the vertices
abbrev pub area_entries : AreaId → RouterId → List ReachedValue → List EntryValue
area_entries area root rs = flat_map (entries_of area root) rs
