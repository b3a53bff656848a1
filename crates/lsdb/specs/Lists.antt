-- What a database is: areas with their LSAs, and after them the LSAs of AS scope (RFC 2328, 12.2).
use Rattle.std.specs.Prelude.{◌≡◌, ◌≢◌, ◌<◌, ◌≤◌, ◌^◌, ℕ, ◌+◌, Bool, true, false, List, [], length, map, All, AllPairs, Option, Some, None, ◌==◌, ◌&&◌, ◌||◌, not}
use Rattle.std.specs.List.{list_any, sum_by, filter_map, find}
use Rattle.lsa_codec.specs.declared.address.Addr.{Addr}
use Rattle.lsa_codec.specs.declared.address.AreaId.{AreaId}
use Rattle.lsa_codec.specs.declared.key.Key.{Key}
use Rattle.lsa_codec.specs.LsTypes.{network_lsa, external_lsa, as_opaque_lsa}
use Rattle.lsa_codec.specs.Fields.{kind_of, link_state_id_of}
use Rattle.lsa_codec.specs.Key.{key_of}
use Rattle.lsa_codec.specs.Accepted.{IsAccepted}
use Rattle.lsdb.specs.Limits.{most_areas, most_lsas_of_area, most_lsas_of_as, longest_dump}
use Rattle.lsdb.specs.declared.section.Section.{Section}
use Rattle.lsdb.specs.declared.section.Section.TheVariants.{Area, AsWide}

-- the ID of an area, and whether it is a stub area
pub record AreaHead : Type 0 where
  pub id : ℕ
  pub is_stub : Bool

-- the LSAs of one area, or, without an area, those of AS scope
pub record SectionLsas : Type 0 where
  pub area : Option AreaHead
  pub lsas : List (List ℕ)

-- the areas in order, and the LSAs of AS scope at the end
abbrev pub Lists : Type 0
Lists = List SectionLsas

-- AS-external-LSAs (type 5) and opaque LSAs of type 11 have AS scope
abbrev pub has_as_scope : Key → Bool
has_as_scope key = (key.kind == external_lsa) || (key.kind == as_opaque_lsa)

abbrev pub is_in_scope : Option AreaHead → Key → Bool
is_in_scope None key = has_as_scope key
is_in_scope (Some area) key = not (has_as_scope key)

abbrev pub limit_of : Option AreaHead → ℕ
limit_of None = most_lsas_of_as
limit_of (Some area) = most_lsas_of_area

-- no two of the keys are the same
abbrev pub AreDistinct : List Key → Type 0
AreDistinct keys = AllPairs (λ a b. a ≢ b) keys

-- the keys of one section
pub record AreKeys (area : Option AreaHead) (keys : List Key) : Type 0 where
  pub few : length keys ≤ limit_of area
  pub scope : All (λ key. is_in_scope area key ≡ true) keys
  pub distinct : AreDistinct keys

pub record IsSection (section : SectionLsas) : Type 0 where
  pub accepted : All IsAccepted section.lsas
  pub keys : AreKeys section.area (map key_of section.lsas)

-- areas stand in rising order of their IDs, and all of them before the LSAs of AS scope
abbrev pub IsBefore : Option AreaHead → Option AreaHead → Type 0
IsBefore (Some a) (Some b) = a.id < b.id
IsBefore (Some a) None = Unit {0}
IsBefore None b = ⊥

abbrev pub is_as_wide : Option AreaHead → Bool
is_as_wide None = true
is_as_wide (Some area) = false

abbrev pub IsOrdinaryBackbone : Option AreaHead → Type 0
IsOrdinaryBackbone None = Unit {0}
IsOrdinaryBackbone (Some area) = area.id ≡ 0 → area.is_stub ≡ false

-- the ID of an area has 32 bits
abbrev pub HasWideId : Option AreaHead → Type 0
HasWideId None = Unit {0}
HasWideId (Some area) = area.id < 2 ^ 32

pub record AreHeads (heads : List (Option AreaHead)) : Type 0 where
  pub few : length heads ≤ most_areas + 1
  pub ids : All HasWideId heads
  pub order : AllPairs IsBefore heads
  pub backbone : All IsOrdinaryBackbone heads
  pub as_wide : list_any is_as_wide heads ≡ true

-- the length of the dump
abbrev pub head_size : Option AreaHead → ℕ
head_size None = 2
head_size (Some area) = 7

abbrev pub lsas_size : List (List ℕ) → ℕ
lsas_size lsas = sum_by length lsas

abbrev pub section_size : SectionLsas → ℕ
section_size section = head_size section.area + lsas_size section.lsas

abbrev pub size : Lists → ℕ
size db = 6 + sum_by section_size db

abbrev pub heads_of : Lists → List (Option AreaHead)
heads_of db = map (λ section. section.area) db

pub record IsDatabase (db : Lists) : Type 0 where
  pub heads : AreHeads (heads_of db)
  pub sections : All IsSection db
  pub small : size db ≤ longest_dump

-- ---- by key and by name

abbrev pub same_key : Key → Key → Bool
same_key a b = (a.kind == b.kind) && ((a.id.0 == b.id.0) && (a.adv.0 == b.adv.0))

abbrev pub has_key : Key → List ℕ → Bool
has_key key lsa = same_key (key_of lsa) key

-- a network-LSA of the network whose Designated Router has this address, which is its Link State ID (RFC 2328, 12.1.4)
abbrev pub is_network : Addr → List ℕ → Bool
is_network network lsa = (kind_of lsa == network_lsa) && (link_state_id_of lsa == network.0)

abbrev pub has_id : ℕ → Option AreaHead → Bool
has_id id None = false
has_id id (Some area) = area.id == id

-- the ID of an area, and whether it is a stub area
abbrev pub id_and_kind : AreaHead → AreaId × Bool
id_and_kind area = (record { 0 = area.id }, area.is_stub)

-- the section of an area, or the one of AS scope, by its head
abbrev pub is_head_of : Section → Option AreaHead → Bool
is_head_of (Area id) head = has_id id.0 head
is_head_of AsWide head = is_as_wide head

abbrev pub is_section : Section → SectionLsas → Bool
is_section name section = is_head_of name section.area

-- the LSAs of a section, if there is one
abbrev pub lsas_or_none : Option SectionLsas → List (List ℕ)
lsas_or_none None = []
lsas_or_none (Some section) = section.lsas

-- the LSAs of the section of that name: none where there is no such section
abbrev pub lsas_of : Section → Lists → List (List ℕ)
lsas_of name db = lsas_or_none (find (is_section name) db)

-- the areas, in rising order of their IDs
abbrev pub areas_of : Lists → List AreaHead
areas_of db = filter_map (λ section. section.area) db
