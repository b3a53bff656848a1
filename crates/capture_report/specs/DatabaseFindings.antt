-- What a database lacks, and what the planner leaves out of it.
use Rattle.std.specs.Prelude.{◌≡◌, ℕ, List, ◌++◌, map}
use Rattle.std.specs.List.{AllZip, filter_map, flat_map}
use Rattle.std.specs.Ordering.{nat_cmp}
use Rattle.findings.specs.declared.finding.Finding.{Finding}
use Rattle.findings.specs.declared.finding.Finding.TheVariants.{MissingAsbr, MissingExternals, MissingNetwork, MissingRouter}
use Rattle.lsa_codec.specs.declared.address.AreaId.{AreaId}
use Rattle.lsa_instances.specs.declared.place.Scope.TheVariants as scopes
use Rattle.lsdb.specs.declared.section.Section.TheVariants.{AsWide}
use Rattle.lsdb.specs.Lists.{AreaHead, Lists, areas_of, lsas_of}
use Rattle.capture_report.specs.declared.borders.RouterTest.TheVariants.{BorderOfAs}
use Rattle.capture_report.specs.Borders.{AreBorderFindings, lsas_of_area, routers_that_pass}
use Rattle.capture_report.specs.Naming.{routers_named, networks_named, asbr_named, external_described, router_described, network_described}
use Rattle.capture_report.specs.LeftOut.{all_left_out}
use Rattle.capture_report.specs.Sets.{AreMissing}

-- ---- one area

abbrev pub router_finding : AreaId → ℕ → Finding
router_finding area id = MissingRouter area (record { 0 = id })

abbrev pub network_finding : AreaId → ℕ → Finding
network_finding area id = MissingNetwork area (record { 0 = id })

-- the routers that are missing in the area, its networks, and what is left out there
pub record AreFindingsOfArea (area : AreaId) (lsas : List (List ℕ)) (findings : List Finding) : Type 0 where
  pub routers : List ℕ
  pub networks : List ℕ
  pub no_router_lsa : AreMissing nat_cmp (flat_map routers_named lsas) (filter_map router_described lsas) routers
  pub no_network_lsa : AreMissing nat_cmp (flat_map networks_named lsas) (filter_map network_described lsas) networks
  pub whole : findings ≡ map (router_finding area) routers ++ map (network_finding area) networks ++ all_left_out (scopes.Area area) lsas

abbrev pub IsPartOf : Lists → AreaHead → List Finding → Type 0
IsPartOf db area findings = AreFindingsOfArea (record { 0 = area.id }) (lsas_of_area db area) findings

-- ---- the LSAs of AS scope

abbrev pub asbr_finding : ℕ → Finding
asbr_finding id = MissingAsbr (record { 0 = id })

abbrev pub externals_finding : ℕ → Finding
externals_finding id = MissingExternals (record { 0 = id })

-- the routers that have a router-LSA in some area
abbrev pub routers_anywhere : Lists → List ℕ
routers_anywhere db = flat_map (λ area. filter_map router_described (lsas_of_area db area)) (areas_of db)

-- the AS boundary routers that are missing in all areas, those without an AS-external-LSA, and what is left out of AS scope
pub record AreFindingsOfAs (db : Lists) (findings : List Finding) : Type 0 where
  pub routers : List ℕ
  pub originators : List ℕ
  pub no_router_lsa : AreMissing nat_cmp (filter_map asbr_named (lsas_of AsWide db)) (routers_anywhere db) routers
  pub no_external : AreMissing nat_cmp (routers_that_pass BorderOfAs db) (filter_map external_described (lsas_of AsWide db)) originators
  pub whole : findings ≡ map asbr_finding routers ++ map externals_finding originators ++ all_left_out scopes.AsWide (lsas_of AsWide db)

-- ---- the database

-- the findings about area border routers, those of each area, in the order of the areas, and then those of AS scope
pub record AreDatabaseFindings (db : Lists) (findings : List Finding) : Type 0 where
  pub first : List Finding
  pub parts : List (List Finding)
  pub last : List Finding
  pub borders : AreBorderFindings db first
  pub areas : AllZip (IsPartOf db) (areas_of db) parts
  pub as_wide : AreFindingsOfAs db last
  pub whole : findings ≡ first ++ flat_map (λ part. part) parts ++ last
