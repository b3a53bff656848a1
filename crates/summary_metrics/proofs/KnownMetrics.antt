-- What is kept for originators stays true when more is added, and gives the metrics.
use Rattle.std.proofs.Common.{◌≡◌, true, ◌∙◌, List, [], ◌∷◌, ◌++◌, Option, Some, None, sym, ap, subst}
use Rattle.std.specs.Prelude.{ℕ, ◌&&◌, ◌==◌, not, if◌then◌else◌}
use Rattle.std.specs.List.{Contains}
use Rattle.std.proofs.lemmas.List.Elements.{All-contains, All-push}
use Rattle.lsa_codec.specs.declared.address.AreaId.{AreaId}
use Rattle.lsa_codec.specs.declared.address.RouterId.{RouterId}
use Rattle.lsa_codec.specs.Views.{metric_of}
use Rattle.lsdb.specs.Lists.{Lists}
use Rattle.area_routes.specs.Inter.{originator_of}
use Rattle.area_routes.specs.Values.{AreaResultValue}
use Rattle.external_routes.specs.Summaries.{borders, is_calculated, is_covered}
use Rattle.routing_table.specs.AreasTrees.{KeptTreesValue, AreOfDatabase}
use Rattle.area_routes.specs.AreaResults.{results_of}
use Rattle.summary_metrics.specs.Refreshed.{due_in, stale_metric}
use Rattle.summary_metrics.specs.BackboneSummaries.{AreAnnounced, BackboneSummariesValue, backbone_lsas}
use Rattle.summary_metrics.specs.SummaryMetrics.{AreGiven, AreInside, AreOf, InsideValue, SummaryMetricsValue, ids_attached}
use Rattle.summary_metrics.specs.steps.AnnouncedCosts.{due_by_backbone}
use Rattle.summary_metrics.proofs.DueByBackbone.{due_metric}

abbrev pub Known : Type 0
Known = List (RouterId × InsideValue)

abbrev pub Attached : Type 0
Attached = List (RouterId × List AreaId)

abbrev pub known_as : Attached → KeptTreesValue → Known → Option BackboneSummariesValue → SummaryMetricsValue
known_as attached trees inside summaries = record { attached = attached; trees = trees; inside = inside; summaries = summaries }

-- ---- more is added

module _ (db : Lists) (old : SummaryMetricsValue) (all : AreOf db old) where
  pub trees_known : (attached : Attached) (before : KeptTreesValue) (known : Known) (summaries : Option BackboneSummariesValue)
      → known_as attached before known summaries ≡ old → AreOfDatabase db before
  trees_known attached before known summaries is = subst (λ (o : SummaryMetricsValue). AreOfDatabase db o.trees) (sym is) all.trees

  pub more_trees : (attached : Attached) (before trees : KeptTreesValue) (known : Known) (summaries : Option BackboneSummariesValue)
      → known_as attached before known summaries ≡ old → AreOfDatabase db trees → AreOf db (known_as attached trees known summaries)
  more_trees attached before trees known summaries is of =
      let known_before = subst (λ (o : SummaryMetricsValue). AreOf db o) (sym is) all in
      record { attached = known_before.attached; trees = of; inside = known_before.inside; summaries = known_before.summaries }

  pub more_announced : (attached : Attached) (trees : KeptTreesValue) (known : Known) (summaries : Option BackboneSummariesValue) (new : BackboneSummariesValue)
      → known_as attached trees known summaries ≡ old → AreAnnounced (backbone_lsas db) new → AreOf db (known_as attached trees known (Some new))
  more_announced attached trees known summaries new is of =
      let known_before = subst (λ (o : SummaryMetricsValue). AreOf db o) (sym is) all in
      record { attached = known_before.attached; trees = known_before.trees; inside = known_before.inside; summaries = of }

module _ (db : Lists) (router : RouterId) (areas : List AreaId) (old : Attached) where
  pub more_attached : (trees : KeptTreesValue) (known : Known) (summaries : Option BackboneSummariesValue) → AreOf db (known_as old trees known summaries)
      → areas ≡ ids_attached db router → AreOf db (known_as (old ++ (router, areas) ∷ []) trees known summaries)
  more_attached trees known summaries all is = record {
    attached = All-push (λ e. e.1 ≡ ids_attached db e.0) old (router, areas) all.attached is;
    trees = all.trees;
    inside = all.inside;
    summaries = all.summaries;
  }

module _ (db : Lists) (router : RouterId) (i : InsideValue) (old : Known) where
  pub more_inside : (attached : Attached) (trees : KeptTreesValue) (summaries : Option BackboneSummariesValue) → AreOf db (known_as attached trees old summaries)
      → AreInside db router i → AreOf db (known_as attached trees (old ++ (router, i) ∷ []) summaries)
  more_inside attached trees summaries all is = record {
    attached = all.attached;
    trees = all.trees;
    inside = All-push (λ e. AreInside db e.0 e.1) old (router, i) all.inside is;
    summaries = all.summaries;
  }

-- by the results of the router's areas
pub inside_of_results : (db : Lists) (router : RouterId) (results : List AreaResultValue) (i : InsideValue) → results ≡ results_of db router
    → AreGiven results i → AreInside db router i
inside_of_results db router results i all given = subst (λ rs. AreGiven rs i) all given

-- ---- the metrics

pub attached_found : (db : Lists) (known : SummaryMetricsValue) (router : RouterId) (areas : List AreaId) → AreOf db known
    → Contains known.attached (router, areas) → areas ≡ ids_attached db router
attached_found db known router areas all is = All-contains (λ e. e.1 ≡ ids_attached db e.0) known.attached (router, areas) all.attached is

pub inside_found : (db : Lists) (known : SummaryMetricsValue) (router : RouterId) (i : InsideValue) → AreOf db known
    → Contains known.inside (router, i) → AreInside db router i
inside_found db known router i all is = All-contains (λ e. AreInside db e.0 e.1) known.inside (router, i) all.inside is

module _ (db : Lists) (area : AreaId) (lsa : List ℕ) where
  -- a metric that is calculated, of an originator that borders the area
  pub calculated_covered : is_calculated db area lsa ≡ true → borders db area (originator_of lsa) ≡ true → is_covered db area lsa ≡ true
  calculated_covered calculated borders = (λ i. calculated i && borders i)

module _ (db : Lists) (area : AreaId) (lsa : List ℕ) (covered : is_covered db area lsa ≡ true) where
  -- the metric, where the LSA has another one
  pub stale_is : (metric : Option ℕ) → metric ≡ (if not (metric_of lsa == due_by_backbone db area lsa) then Some (due_by_backbone db area lsa) else None)
      → metric ≡ stale_metric db area lsa
  stale_is metric is =
      is ∙ ap (λ n. if not (metric_of lsa == n) then Some n else None) (sym (due_metric db area lsa covered))
      ∙ ap (λ b. if b && not (metric_of lsa == due_in db area lsa) then Some (due_in db area lsa) else None) (sym covered)
