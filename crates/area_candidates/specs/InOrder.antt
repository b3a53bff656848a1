-- The LSAs of a type and a prefix in a section of a database, in order.
use Rattle.std.specs.Prelude.{ℕ, Bool, false, ◌==◌, ◌&&◌, ◌||◌, if◌then◌else◌, List, Option, None, Some}
use Rattle.std.specs.List.{filter_map, find}
use Rattle.std.specs.Option.{option_map}
use Rattle.std.specs.Ordering.{nat_cmp, ordering_then}
use Rattle.std.specs.declared.cmp.Ordering.{Ordering}
use Rattle.lsa_codec.specs.declared.address.AreaId.{AreaId}
use Rattle.lsa_codec.specs.declared.key.Key.{Key}
use Rattle.lsa_codec.specs.Fields.{kind_of}
use Rattle.lsa_codec.specs.Key.{key_of}
use Rattle.lsa_codec.specs.LsTypes.{network_lsa, router_lsa}
use Rattle.lsa_codec.specs.Prefix.{Net}
use Rattle.lsdb.specs.declared.section.Section.{Section}
use Rattle.lsdb.specs.declared.section.Section.TheVariants.{Area, AsWide}
use Rattle.lsdb.specs.Lists.{Lists, has_key, lsas_of}
use Rattle.area_graph.specs.Rising.{rising}
use Rattle.lsa_names.specs.LsaNames.{net_of_any}
use Rattle.area_candidates.specs.declared.ordered_lsas.Place.{Place}

-- an LSA of an area, or of AS scope
pub record FoundValue : Type 0 where
  pub area : Option AreaId
  pub lsa : List ℕ

-- ---- where an LSA stands

-- network-LSAs stand by Link State ID and Advertising Router, others by Advertising Router and Link State ID
abbrev pub place_of : Key → Place
place_of key =
    if key.kind == network_lsa then record { first = key.id.0; second = key.adv.0 } else record { first = key.adv.0; second = key.id.0 }

-- the key of an LSA of a type at a place
abbrev pub key_at : ℕ → Place → Key
key_at kind place =
    if kind == network_lsa then record { kind = kind; id = record { 0 = place.first }; adv = record { 0 = place.second } }
    else record { kind = kind; id = record { 0 = place.second }; adv = record { 0 = place.first } }

abbrev pub place_cmp : Place → Place → Ordering
place_cmp a b = ordering_then (nat_cmp a.first b.first) (nat_cmp a.second b.second)

-- ---- which LSAs

abbrev pub is_prefix : Net → Option Net → Bool
is_prefix net None = false
is_prefix net (Some other) = (other.addr.0 == net.addr.0) && (other.len == net.len)

-- an LSA of the type with this prefix; any router-LSA, whose links have prefixes
abbrev pub concerns : ℕ → Net → List ℕ → Bool
concerns kind net lsa = (kind_of lsa == kind) && ((kind == router_lsa) || is_prefix net (net_of_any lsa))

abbrev pub place_if : ℕ → Net → List ℕ → Option Place
place_if kind net lsa = if concerns kind net lsa then Some (place_of (key_of lsa)) else None

-- the places of such LSAs, in order
abbrev pub places : ℕ → Net → List (List ℕ) → List Place
places kind net lsas = rising place_cmp (filter_map (place_if kind net) lsas)

-- ---- in a database

abbrev pub section_of : Option AreaId → Section
section_of None = AsWide
section_of (Some area) = Area area

-- the LSA with a key
abbrev pub found_at : Lists → Option AreaId → Key → Option FoundValue
found_at db area key = option_map (λ lsa. record { area = area; lsa = lsa }) (find (has_key key) (lsas_of (section_of area) db))

-- the LSAs of the type with this prefix, in order
abbrev pub lsas_in_order : Lists → Option AreaId → ℕ → Net → List FoundValue
lsas_in_order db area kind net = filter_map (λ place. found_at db area (key_at kind place)) (places kind net (lsas_of (section_of area) db))
