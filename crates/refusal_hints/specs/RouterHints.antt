-- What would have been right in place of an area, a router, a link or a network that is not there.
use Rattle.std.specs.Prelude.{ℕ, ◌==◌, List, [], ◌∷◌, ◌++◌, map, codes, decimal, Option, None, Some, if◌then◌else◌}
use Rattle.lsa_codec.specs.LsTypes.{network_lsa, router_lsa}
use Rattle.lsa_codec.specs.Spelling.{address_text}
use Rattle.lsa_codec.specs.declared.address.Addr.{Addr}
use Rattle.lsa_codec.specs.declared.address.AreaId.{AreaId}
use Rattle.lsa_codec.specs.declared.address.RouterId.{RouterId}
use Rattle.lsdb.specs.Lists.{Lists}
use Rattle.link_report.specs.Areas.{area_ids}
use Rattle.routing_table.specs.Routers.{attached_routers}
use Rattle.refusal_hints.specs.Described.{area_with, described, link_total}
use Rattle.refusal_hints.specs.Nearest.{has_nearest}
use Rattle.refusal_hints.specs.Situation.{SituationValue, was_attached}

-- `the database has 0.0.0.1`, of several addresses the one that is most like another; where there is none, another text
abbrev pub database_has : List ℕ → ℕ → List ℕ → List ℕ
database_has otherwise address those = codes "the database" ++ has_nearest otherwise address those

-- `the database has 0.0.0.1`, or `the database has no area`
abbrev pub area_hint : Lists → AreaId → List ℕ
area_hint db area = database_has (codes " has no area") area.0 (map (λ id. id.0) (area_ids db))

abbrev pub area_text : AreaId → List ℕ
area_text area = codes "area " ++ address_text area.0

-- the same of an area, whose LSAs of a type describe those addresses
abbrev pub area_has : Lists → ℕ → AreaId → List ℕ → ℕ → List ℕ
area_has db kind area otherwise address = area_text area ++ has_nearest otherwise address (described db kind (area ∷ []))

-- a router that the area does not have: another area that has it, or the nearest router of this one
abbrev pub elsewhere_or : Lists → AreaId → RouterId → Option AreaId → List ℕ
elsewhere_or db area router (Some other) = codes "it is in " ++ area_text other
elsewhere_or db area router None = area_has db router_lsa area (codes " has no router") router.0

abbrev pub router_hint : Lists → AreaId → RouterId → List ℕ
router_hint db area router = elsewhere_or db area router (area_with db router)

-- a router that no area has
abbrev pub anywhere_hint : Lists → RouterId → List ℕ
anywhere_hint db router = database_has (codes " has no router") router.0 (described db router_lsa (area_ids db))

-- a network that the area does not have, by the address of its Designated Router
abbrev pub network_hint : Lists → AreaId → Addr → List ℕ
network_hint db area network = area_has db network_lsa area (codes " has no network") network.0

-- a link that the router does not have
abbrev pub links_text : ℕ → List ℕ
links_text total = if total == 0 then codes " has no link" else codes " has links 1 to " ++ decimal total

abbrev pub link_hint : Lists → AreaId → RouterId → List ℕ
link_hint db area router = address_text router.0 ++ links_text (link_total db area router)

-- a router that is not attached
abbrev pub attached_hint : RouterId → List RouterId → List ℕ
attached_hint router [] = codes "no router is attached"
attached_hint router (first ∷ others) = database_has [] router.0 (map (λ other. other.0) (first ∷ others))

abbrev pub unattached_hint : SituationValue → RouterId → List ℕ
unattached_hint s router =
    if was_attached s router then codes "it is in the baseline alone" else attached_hint router (attached_routers s.database)
