-- The summary-LSAs of the backbone: for each destination, the routers that announce it and their metrics (RFC 2328, 12.4.3
-- and 16.2).
use Rattle.std.specs.Prelude.{◌≡◌, ℕ, nat_lt, List, [], Bool, false, ◌&&◌, ◌==◌, if◌then◌else◌, Option, None, Some, map}
use Rattle.std.specs.List.{filter}
use Rattle.std.specs.Option.{option_map_or}
use Rattle.std.specs.Map.{lookup}
use Rattle.std.specs.Ordering.{eq_by_cmp}
use Rattle.std.specs.declared.cmp.Ordering.{Ordering}
use Rattle.lsa_codec.specs.LsTypes.{asbr_summary_lsa}
use Rattle.lsa_codec.specs.declared.address.RouterId.{RouterId}
use Rattle.lsa_codec.specs.Fields.{kind_of}
use Rattle.lsa_codec.specs.Order.{prefix_cmp, router_cmp}
use Rattle.lsa_codec.specs.Prefix.{Net}
use Rattle.lsa_codec.specs.Views.{ls_infinity, metric_of, net_of_summary}
use Rattle.lsdb.specs.declared.section.Section.TheVariants.{Area}
use Rattle.lsdb.specs.Lists.{Lists, lsas_of}
use Rattle.area_graph.specs.Area.{is_live}
use Rattle.area_routes.specs.Inter.{is_summary, named_router, originator_of}
use Rattle.summary_metrics.specs.declared.sources.Source.{Source}

-- ---- one LSA

-- a live summary-LSA with a metric below LSInfinity
abbrev pub is_source : List ℕ → Bool
is_source lsa = is_summary lsa && (is_live lsa && nat_lt (metric_of lsa) ls_infinity)

abbrev pub source_of : List ℕ → Source
source_of lsa = record { originator = originator_of lsa; metric = metric_of lsa }

-- the AS boundary router of an LSA, if it is a summary-LSA of type 4
abbrev pub asbr_named : List ℕ → Option RouterId
asbr_named lsa = if kind_of lsa == asbr_summary_lsa then Some (named_router lsa) else None

module _ {K : Type 0} (R : K → K → Ordering) where
  -- whether a key is there and is this one
  abbrev pub is_at : K → Option K → Bool
  is_at key o = option_map_or (eq_by_cmp R key) o false

  -- the sources of a key: those of the live summary-LSAs among some LSAs that are for this key
  abbrev pub sources : (List ℕ → Option K) → List (List ℕ) → K → List Source
  sources key_of lsas key = map source_of (filter (λ lsa. is_source lsa && is_at key (key_of lsa)) lsas)

-- the LSAs of the backbone
abbrev pub backbone_lsas : Lists → List (List ℕ)
backbone_lsas db = lsas_of (Area (record { 0 = 0 })) db

-- ---- all of them, by destination

-- the sources of some LSAs, by prefix and by AS boundary router
pub record BackboneSummariesValue : Type 0 where
  pub nets : List (Net × List Source)
  pub asbrs : List (RouterId × List Source)

-- the sources at a key
abbrev pub sources_or_none : Option (List Source) → List Source
sources_or_none o = option_map_or (λ ss. ss) o []

-- each key has its sources
abbrev pub AreSources : {K : Type 0} → (K → K → Ordering) → (List ℕ → Option K) → List (List ℕ) → List (K × List Source) → Type 0
AreSources {K} R key_of lsas entries = (key : K) → sources_or_none (lookup (eq_by_cmp R key) entries) ≡ sources R key_of lsas key

-- these are the sources of these LSAs
pub record AreAnnounced (lsas : List (List ℕ)) (summaries : BackboneSummariesValue) : Type 0 where
  pub nets : AreSources prefix_cmp net_of_summary lsas summaries.nets
  pub asbrs : AreSources router_cmp asbr_named lsas summaries.asbrs
