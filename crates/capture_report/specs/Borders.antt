-- Routers of several areas, or of several ASes, by their router-LSAs (RFC 2328, 3.3 and A.4.2; RFC 3509).
use Rattle.std.specs.Prelude.{◌≡◌, ℕ, ◌==◌, ◌&&◌, ◌||◌, not, bit_and, Bool, true, if◌then◌else◌, List, [], ◌∷◌, ◌++◌, length, map, Option, Some, None}
use Rattle.std.specs.List.{filter_map, flat_map, list_any}
use Rattle.std.specs.Ordering.{nat_cmp}
use Rattle.findings.specs.declared.finding.Finding.{Finding}
use Rattle.findings.specs.declared.finding.Finding.TheVariants.{MissingAbr, MissingBackbone, NoLinks}
use Rattle.lsa_codec.specs.Areas.{is_backbone}
use Rattle.lsa_codec.specs.Fields.{byte_at, kind_of, link_state_id_of}
use Rattle.lsa_codec.specs.Key.{is_at_max_age}
use Rattle.lsa_codec.specs.Links.{link_count}
use Rattle.lsa_codec.specs.LsTypes.{router_lsa}
use Rattle.lsdb.specs.declared.section.Section.TheVariants.{Area}
use Rattle.lsdb.specs.Lists.{AreaHead, Lists, areas_of, lsas_of}
use Rattle.capture_report.specs.declared.borders.RouterTest.{RouterTest}
use Rattle.capture_report.specs.declared.borders.RouterTest.TheVariants.{BorderOfAreas, BorderOfAs, UnlinkedInBackbone, LinkedElsewhere}
use Rattle.capture_report.specs.Naming.{router_described}
use Rattle.capture_report.specs.NoKind.{areas_in}
use Rattle.capture_report.specs.Sets.{AreMissing, AreShared}

-- ---- tests of router-LSAs

-- bit B, of an area border router
abbrev pub bit_b : ℕ
bit_b = 1

-- bit E, of an AS boundary router
abbrev pub bit_e : ℕ
bit_e = 2

abbrev pub has_bit : ℕ → List ℕ → Bool
has_bit bit lsa = not (bit_and (byte_at 20 lsa) bit == 0)

abbrev pub is_unlinked : List ℕ → Bool
is_unlinked lsa = link_count lsa == 0

-- a router-LSA passes a test
abbrev pub passes : RouterTest → List ℕ → Bool
passes BorderOfAreas lsa = has_bit bit_b lsa
passes BorderOfAs lsa = has_bit bit_e lsa
passes UnlinkedInBackbone lsa = is_unlinked lsa
passes LinkedElsewhere lsa = not (is_unlinked lsa)

-- the areas in which a test counts: a stub area has no AS boundary routers (3.6)
abbrev pub counts_in : RouterTest → AreaHead → Bool
counts_in BorderOfAreas area = true
counts_in BorderOfAs area = not area.is_stub
counts_in UnlinkedInBackbone area = area.id == 0
counts_in LinkedElsewhere area = not (area.id == 0)

-- ---- the routers that pass

-- the router of a live router-LSA that passes
abbrev pub router_that_passes : RouterTest → List ℕ → Option ℕ
router_that_passes test lsa =
    if is_at_max_age lsa then None else
    if (kind_of lsa == router_lsa) && passes test lsa then Some (link_state_id_of lsa) else None

-- the LSAs of an area
abbrev pub lsas_of_area : Lists → AreaHead → List (List ℕ)
lsas_of_area db area = lsas_of (Area (record { 0 = area.id })) db

abbrev pub routers_in : RouterTest → Lists → AreaHead → List ℕ
routers_in test db area = if counts_in test area then filter_map (router_that_passes test) (lsas_of_area db area) else []

-- those of all areas where the test counts
abbrev pub routers_that_pass : RouterTest → Lists → List ℕ
routers_that_pass test db = flat_map (routers_in test db) (areas_of db)

-- ---- what a database lacks of area border routers

abbrev pub has_backbone : Lists → Bool
has_backbone db = list_any is_backbone (areas_in db)

-- an area border router is a router of the backbone (3.3): so there is one
abbrev pub absent_backbone : Lists → List Finding
absent_backbone db = if has_backbone db || (length (routers_that_pass BorderOfAreas db) == 0) then [] else MissingBackbone ∷ []

abbrev pub backbone_lsas : Lists → List (List ℕ)
backbone_lsas db = lsas_of (Area (record { 0 = 0 })) db

abbrev pub abr_finding : ℕ → Finding
abr_finding id = MissingAbr (record { 0 = id })

abbrev pub unlinked_finding : ℕ → Finding
unlinked_finding id = NoLinks (record { 0 = id })

-- the backbone, where it is absent; the area border routers without a router-LSA there; and the routers that have links in another
-- area and none in the backbone, which are not actively attached to it (RFC 3509, 2)
pub record AreBorderFindings (db : Lists) (findings : List Finding) : Type 0 where
  pub abrs : List ℕ
  pub unlinked : List ℕ
  pub no_router_lsa : AreMissing nat_cmp (routers_that_pass BorderOfAreas db) (filter_map router_described (backbone_lsas db)) abrs
  pub no_links : AreShared nat_cmp (routers_that_pass UnlinkedInBackbone db) (routers_that_pass LinkedElsewhere db) unlinked
  pub whole : findings ≡ absent_backbone db ++ map abr_finding abrs ++ map unlinked_finding unlinked
