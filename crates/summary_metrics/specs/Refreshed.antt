-- The database in which the summary-LSAs that are there have the metrics that their originators announce (RFC 2328, 12.4.3).
use Rattle.std.specs.Prelude.{◌≡◌, ℕ, false, ◌==◌, ◌&&◌, Bool, not, if◌then◌else◌, List, map, All, Option, None, Some}
use Rattle.lsa_codec.specs.Areas.{is_backbone}
use Rattle.lsa_codec.specs.declared.address.AreaId.{AreaId}
use Rattle.lsa_codec.specs.declared.address.RouterId.{RouterId}
use Rattle.lsa_codec.specs.Originating.{with_metric}
use Rattle.lsa_codec.specs.Views.{metric_of}
use Rattle.lsdb.specs.Lists.{AreaHead, Lists, SectionLsas}
use Rattle.area_routes.specs.AreaResults.{results_of}
pub use Rattle.area_routes.specs.Attached.{id_of}
use Rattle.area_routes.specs.Inter.{originator_of}
use Rattle.area_routes.specs.Values.{EntryValue}
use Rattle.best_ways.specs.Values.{RouteValue}
use Rattle.external_routes.specs.Summaries.{due, is_covered}
use Rattle.routing_table.specs.Tables.{inside, inter_result}

-- ---- the metric that an LSA should have

-- the intra-area and inter-area routes of a router
abbrev pub routes_inside : Lists → RouterId → List RouteValue
routes_inside db router = inside db router (results_of db router)

-- the router entries of a router
abbrev pub entries_inside : Lists → RouterId → List EntryValue
entries_inside db router = (inter_result db router (results_of db router)).routers

-- the metric that an LSA of an area should have in the database, by the routes and entries of its
-- originator
unfoldable pub due_in : Lists → AreaId → List ℕ → ℕ
due_in db area lsa = due db area lsa (routes_inside db (originator_of lsa)) (entries_inside db (originator_of lsa))

-- ---- the LSAs

-- whether the metric of an LSA follows from the database and differs from the one that it should
-- have
abbrev pub is_stale : Lists → AreaId → List ℕ → Bool
is_stale db area lsa = is_covered db area lsa && not (metric_of lsa == due_in db area lsa)

-- the metric that a stale LSA of an area should have; none where it is not stale
abbrev pub stale_metric : Lists → AreaId → List ℕ → Option ℕ
stale_metric db area lsa = if is_stale db area lsa then Some (due_in db area lsa) else None

-- an LSA of an area, with the metric that it should have; one that has it, or is not covered, stays as
-- it is
abbrev pub refreshed_lsa : Lists → AreaId → List ℕ → List ℕ
refreshed_lsa db area lsa = if is_stale db area lsa then with_metric (due_in db area lsa) lsa else lsa

-- ---- the database

module _ (db : Lists) (chosen : AreaId → Bool) where
  -- the LSAs of a section, refreshed where it is a chosen area
  abbrev pub refreshed_lsas : Option AreaHead → List (List ℕ) → List (List ℕ)
  refreshed_lsas None lsas = lsas
  refreshed_lsas (Some head) lsas = if chosen (id_of head) then map (refreshed_lsa db (id_of head)) lsas else lsas

  abbrev pub refreshed_section : SectionLsas → SectionLsas
  refreshed_section s = record { area = s.area; lsas = refreshed_lsas s.area s.lsas }

-- the database with the chosen areas refreshed, all by the database before
abbrev pub refreshed_areas : (AreaId → Bool) → Lists → Lists
refreshed_areas chosen db = map (refreshed_section db chosen) db

abbrev pub is_not_backbone : AreaId → Bool
is_not_backbone area = not (is_backbone area)

-- the database with all areas refreshed: the backbone first, and then the other areas by the
-- database with the refreshed backbone
abbrev pub refreshed : Lists → Lists
refreshed db = refreshed_areas is_not_backbone (refreshed_areas is_backbone db)

-- ---- its properties

-- no LSA of the section is stale
abbrev pub AreSettled : Lists → Option AreaHead → List (List ℕ) → Type 0
AreSettled db None lsas = Unit {0}
AreSettled db (Some head) lsas = All (λ lsa. is_stale db (id_of head) lsa ≡ false) lsas

-- each covered LSA has the metric that it should have in this very database
abbrev pub IsSettled : Lists → Type 0
IsSettled db = All (λ s. AreSettled db s.area s.lsas) db
