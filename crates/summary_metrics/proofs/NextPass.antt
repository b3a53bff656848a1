-- What is kept for originators, except for the backbone summaries, stays true where the backbone is
-- refreshed.
use Rattle.std.proofs.Common.{◌≡◌, ◌∙◌, List, map, Option, Some, None, sym, ap, subst}
use Rattle.std.specs.Prelude.{IfSome}
use Rattle.std.proofs.lemmas.List.Elements.{All-weaker}
use Rattle.lsa_codec.specs.Areas.{is_backbone}
use Rattle.lsa_codec.specs.declared.address.AreaId.{AreaId}
use Rattle.lsdb.specs.declared.section.Section.TheVariants.{Area}
use Rattle.lsdb.specs.Lists.{IsDatabase, Lists, lsas_of}
use Rattle.area_routes.specs.Values.{AreaResultValue}
use Rattle.area_routes.proofs.SameGraphLemmas.{same_graph, same_stub_links}
use Rattle.routing_table.specs.AreaTrees.{AreaTreesValue, IsAreaOf}
use Rattle.routing_table.specs.AreasTrees.{KeptTreesValue, AreOfDatabase, IsSpareOf, trees_at}
use Rattle.summary_metrics.specs.Refreshed.{id_of, refreshed_areas}
use Rattle.summary_metrics.specs.BackboneSummaries.{BackboneSummariesValue}
use Rattle.summary_metrics.specs.SummaryMetrics.{AreGiven, AreInside, AreOf, SummaryMetricsValue, ids_attached}
use Rattle.summary_metrics.proofs.KnownMetrics.{Attached, Known, known_as}
use Rattle.summary_metrics.proofs.Passes.{areas_kept, graph_kept}
use Rattle.summary_metrics.proofs.SameGraphs.{HaveSameGraphs, areas_alike, results_alike}
use Rattle.summary_metrics.proofs.Settled.{accepted_of}

module _ (db : Lists) (is : IsDatabase db) where
  abbrev next : Lists
  next = refreshed_areas is_backbone db

  same : HaveSameGraphs db next
  same = record { areas = areas_kept is_backbone db; lsas = λ area. graph_kept is_backbone db (Area area) (accepted_of db is) }

  area_next : (area : AreaId) (kept : AreaTreesValue) → IsAreaOf (lsas_of (Area area) db) kept → IsAreaOf (lsas_of (Area area) next) kept
  area_next area kept h = record {
    graph = same_graph (lsas_of (Area area) db) (lsas_of (Area area) next) (sym (same.lsas area)) kept.graph h.graph;
    stubs = same_stub_links (lsas_of (Area area) db) (lsas_of (Area area) next) (sym (same.lsas area)) kept.stubs h.stubs;
  }

  trees_next : (trees : KeptTreesValue) → AreOfDatabase db trees → AreOfDatabase next trees
  trees_next trees all = record { areas = λ area. by area (trees_at trees area) (all.areas area); spare = left trees.spare all.spare }
    where
      by : (area : AreaId) (o : Option AreaTreesValue) → IfSome o (IsAreaOf (lsas_of (Area area) db)) → IfSome o (IsAreaOf (lsas_of (Area area) next))
      by area None h = tt
      by area (Some kept) h = area_next area kept h

      left : (o : Option (AreaId × AreaTreesValue)) → IfSome o (IsSpareOf db) → IfSome o (IsSpareOf next)
      left None h = tt
      left (Some spare) h = record { area = area_next spare.0 spare.1 h.area; trees = h.trees }

  known_next : (known : SummaryMetricsValue) → AreOf db known → AreOf next (known_as known.attached known.trees known.inside None)
  known_next known all = record {
    attached = All-weaker (λ e. e.1 ≡ ids_attached db e.0) (λ e. e.1 ≡ ids_attached next e.0)
        (λ e h. h ∙ sym (ap (map id_of) (areas_alike db next same e.0))) known.attached all.attached;
    trees = trees_next known.trees all.trees;
    inside = All-weaker (λ e. AreInside db e.0 e.1) (λ e. AreInside next e.0 e.1)
        (λ e h. subst (λ (rs : List AreaResultValue). AreGiven rs e.1) (sym (results_alike db next same e.0)) h) known.inside all.inside;
    summaries = tt;
  }

  pub invalidated : (old : SummaryMetricsValue) (attached : Attached) (trees : KeptTreesValue) (inside : Known) (summaries : Option BackboneSummariesValue)
      → known_as attached trees inside summaries ≡ old → AreOf db old → AreOf next (known_as attached trees inside None)
  invalidated old attached trees inside summaries is_old all =
      known_next (known_as attached trees inside summaries) (subst (λ (o : SummaryMetricsValue). AreOf db o) (sym is_old) all)
