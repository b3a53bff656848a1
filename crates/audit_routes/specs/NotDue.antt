-- Summary-LSAs of border routers whose metrics a refresh would change (RFC 2328, 12.4.3).
use Rattle.std.specs.Prelude.{ℕ, Bool, ◌&&◌, ◌==◌, not, if◌then◌else◌, List, Option, None, Some, option_and_then}
use Rattle.std.specs.List.{find, flat_map}
use Rattle.lsa_codec.specs.LsTypes.{asbr_summary_lsa}
use Rattle.lsa_codec.specs.declared.address.AreaId.{AreaId}
use Rattle.lsa_codec.specs.declared.address.RouterId.{RouterId}
use Rattle.lsa_codec.specs.Fields.{kind_of}
use Rattle.lsa_codec.specs.Key.{key_of}
use Rattle.lsa_codec.specs.Views.{ls_infinity, metric_of}
use Rattle.lsdb.specs.declared.section.Section.TheVariants.{Area}
use Rattle.lsdb.specs.Lists.{Lists, has_key, lsas_of}
use Rattle.area_graph.specs.Area.{is_live}
use Rattle.area_routes.specs.Entries.{bit_e}
use Rattle.area_routes.specs.Inter.{is_summary, named_router, originator_of, same_router}
use Rattle.summary_metrics.specs.Refreshed.{refreshed}
use Rattle.link_report.specs.Areas.{area_ids}
use Rattle.lsa_names.specs.LsaNames.{lsa_name}
use Rattle.audit_places.specs.Places.{PlaceValue, not_due}
use Rattle.audit_routers.specs.Linked.{border_routers, has_router}
use Rattle.audit_routes.specs.declared.not_due.Metrics.{Metrics}
use Rattle.audit_routes.specs.declared.not_due.Metrics.TheVariants.{Raised, Others}
use Rattle.audit_routes.specs.Bits.{has_bit_in}
use Rattle.audit_routes.specs.InOrder.{found_in_order}

-- ---- a database and what a refresh makes of it

pub record RefreshValue : Type 0 where
  pub db : Lists
  pub after : Lists
  pub borders : List RouterId

abbrev pub refresh_of : Lists → RefreshValue
refresh_of db = record { db = db; after = refreshed db; borders = border_routers db }

-- ---- metrics

-- the metric that a drained border router gives to its summaries: LSInfinity less the greatest cost of a link
abbrev pub raised_metric : ℕ
raised_metric = 16711680

abbrev pub is_wanted : Metrics → ℕ → Bool
is_wanted Raised metric = metric == raised_metric
is_wanted Others metric = not (metric == raised_metric)

-- the metric that is announced: none for LSInfinity
abbrev pub due_metric : ℕ → Option ℕ
due_metric metric = if metric == ls_infinity then None else Some metric

abbrev pub summary_metric : List ℕ → Option ℕ
summary_metric lsa = if is_summary lsa then Some (metric_of lsa) else None

-- ---- LSAs

-- a summary-LSA of type 4 by which an AS boundary router announces itself: no table uses it
abbrev pub announces_itself : Lists → AreaId → List ℕ → Bool
announces_itself db area lsa =
    (kind_of lsa == asbr_summary_lsa) && (same_router (named_router lsa) (originator_of lsa) && has_bit_in db area (originator_of lsa) bit_e)

-- a live LSA of a border router, unless an AS boundary router announces itself by it
abbrev pub is_examined : RefreshValue → AreaId → List ℕ → Bool
is_examined r area lsa = is_live lsa && (has_router r.borders (originator_of lsa) && not (announces_itself r.db area lsa))

-- the metric of the LSA with the same key after the refresh
abbrev pub metric_after : RefreshValue → AreaId → List ℕ → Option ℕ
metric_after r area lsa = option_and_then summary_metric (find (has_key (key_of lsa)) (lsas_of (Area area) r.after))

-- the place of an LSA with a metric, where it is due another one
abbrev pub place_by : AreaId → List ℕ → ℕ → ℕ → Option PlaceValue
place_by area lsa metric due = if due == metric then None else Some (not_due (lsa_name (Some area) lsa) metric (due_metric due))

module _ (r : RefreshValue) (metrics : Metrics) (area : AreaId) where
  -- the place of an LSA with a metric, where that after the refresh is another one
  abbrev pub place_with : List ℕ → ℕ → Option PlaceValue
  place_with lsa metric =
      if is_wanted metrics metric && is_examined r area lsa then option_and_then (place_by area lsa metric) (metric_after r area lsa) else None

  -- the place of an LSA, if it is a summary-LSA
  abbrev pub not_due_place : List ℕ → Option PlaceValue
  not_due_place lsa = option_and_then (place_with lsa) (summary_metric lsa)

  -- the places of the LSAs of an area, in order
  abbrev pub places_in : List PlaceValue
  places_in = found_in_order not_due_place (lsas_of (Area area) r.db)

-- the places in all areas
abbrev pub not_due_places : Metrics → Lists → List PlaceValue
not_due_places metrics db = flat_map (places_in (refresh_of db) metrics) (area_ids db)

-- those with the metric of a drained border router
abbrev pub summary_raised_places : Lists → List PlaceValue
summary_raised_places db = not_due_places Raised db

-- those with another one
abbrev pub summary_not_due_places : Lists → List PlaceValue
summary_not_due_places db = not_due_places Others db
