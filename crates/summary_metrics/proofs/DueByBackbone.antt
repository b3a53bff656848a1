-- The metric that a covered LSA should have follows from costs within the areas of its originator and from the backbone
-- summaries.
use Rattle.std.proofs.Common.{◌≡◌, ℕ, Bool, true, false, List, [], ◌∷◌, ◌++◌, filter, Option, Some, None, IfSome, is_some, refl, sym, subst, ap, ◌∙◌, true≢false, ⊎_elim}
use Rattle.std.specs.Prelude.{◌&&◌, ◌||◌, ◌==◌, not, if◌then◌else◌}
use Rattle.std.specs.List.{cons_option, filter_map, list_any}
use Rattle.std.specs.Option.{option_and_then, option_map, option_map_or, option_or}
use Rattle.std.specs.Ordering.{nat_cmp}
use Rattle.std.proofs.lemmas.Bool.{and_parts, eq-eqb, eqb-true}
use Rattle.std.proofs.lemmas.List.{append-nil}
use Rattle.std.proofs.lemmas.List.Elements.{All-filter, filter-append}
use Rattle.lsa_codec.specs.Areas.{is_backbone}
use Rattle.lsa_codec.specs.declared.address.AreaId.{AreaId}
use Rattle.lsa_codec.specs.declared.address.RouterId.{RouterId}
use Rattle.lsa_codec.specs.Prefix.{Net}
use Rattle.lsa_codec.specs.Views.{ls_infinity, net_of_summary}
use Rattle.lsdb.specs.declared.section.Section.TheVariants.{Area}
use Rattle.lsdb.specs.Lists.{Lists, lsas_of}
use Rattle.area_graph.specs.Least.{least}
use Rattle.best_ways.specs.declared.rank.PathType.TheVariants.{Intra}
use Rattle.area_routes.specs.declared.entry.EntryKind.TheVariants.{AsbrInter}
use Rattle.area_routes.specs.Attached.{attached_areas}
use Rattle.area_routes.specs.Inter.{backbone, entries_by, entries_of_all, examined, has_asbr, inter_entries, inter_of, inter_routes, originator_of, routes_by, same_router}
use Rattle.area_routes.specs.Intra.{intra_of}
use Rattle.best_ways.specs.Routes.{route_to}
use Rattle.area_routes.specs.Values.{AreaResultValue, EntryValue}
use Rattle.best_ways.specs.Values.{RouteValue}
use Rattle.external_routes.specs.Choose.{is_asbr, is_asbr_intra, is_intra, preference, preferred}
use Rattle.external_routes.specs.Summaries.{asbr_of_summary, borders, cost_of_asbr, cost_of_net, is_announced_entry, is_announced_route, is_calculated, is_covered, metric_for}
use Rattle.routing_table.proofs.PreferenceLemmas.{route_all, route_preferring}
use Rattle.area_routes.specs.AreaResults.{results_of}
use Rattle.summary_metrics.specs.Refreshed.{due_in, entries_inside, routes_inside}
use Rattle.summary_metrics.specs.declared.sources.Source.{Source}
use Rattle.summary_metrics.specs.BackboneSummaries.{backbone_lsas}
use Rattle.summary_metrics.specs.SummaryMetrics.{backbone_entries}
use Rattle.summary_metrics.specs.steps.AnnouncedCosts.{asbr_cost, asbr_sources, cost_over, due_by_backbone, else_announced, entry_cost, net_cost, net_sources, route_cost, announced_cost}
use Rattle.summary_metrics.proofs.IntoBackbone.{asbr_cost as asbr_into_backbone, entries_inter, net_cost as net_into_backbone, routes_inter}
use Rattle.summary_metrics.proofs.IntraKinds.{all_intra}
use Rattle.summary_metrics.proofs.Outside.{IsInside, is_outside, least_alike}
use Rattle.summary_metrics.proofs.OwnEntries.{IsFirst, backbone_lacks, first_entry}
use Rattle.summary_metrics.proofs.Several.{examines_backbone, found_backbone}
use Rattle.summary_metrics.proofs.AnnouncedRoutes.{asbr_inter_cost, asbr_none, inter_cost}

-- ---- no cost over a source without entries

nothing_over : (router : RouterId) (s : Source) → cost_over router [] s ≡ None
nothing_over router s = by (same_router s.originator router) None refl
  where
    by : (b : Bool) (o : Option ℕ) → o ≡ None → (if b then None else o) ≡ None
    by true o h = refl
    by false o h = h

nothing_announced : (router : RouterId) (ss : List Source) → filter_map (cost_over router []) ss ≡ []
nothing_announced router [] = refl
nothing_announced router (s ∷ ss) = ap (λ o. cons_option o (filter_map (cost_over router []) ss)) (nothing_over router s) ∙ nothing_announced router ss

-- ---- into an area

apart_from : (a b : AreaId) → is_backbone a ≡ true → is_backbone b ≡ false → (a.0 == b.0) ≡ false
apart_from a b is other = by (a.0 == b.0) refl
  where
    by : (t : Bool) → (a.0 == b.0) ≡ t → (a.0 == b.0) ≡ false
    by true h = absurd (true≢false (sym (eq-eqb b.0 0 (sym (eqb-true a.0 b.0 h) ∙ eqb-true a.0 0 is)) ∙ other))
    by false h = h

lsas_at : (db : Lists) (area : AreaId) → is_backbone area ≡ true → lsas_of (Area area) db ≡ backbone_lsas db
lsas_at db area is = ap (λ n. lsas_of (Area (record { 0 = n })) db) (eqb-true area.0 0 is)

none_least : (es : List EntryValue) → least preference es ≡ None → es ≡ []
none_least [] h = refl
none_least (e ∷ es) h = absurd cc

module _ (db : Lists) (area : AreaId) (router : RouterId) where
  abbrev results : List AreaResultValue
  results = results_of db router

  abbrev intra : List RouteValue
  intra = intra_of results

  abbrev entries : List EntryValue
  entries = entries_of_all results

  abbrev announced_route : RouteValue → Option ℕ
  announced_route r = if is_announced_route area r then Some r.cost else None

  abbrev announced_entry : EntryValue → Option ℕ
  announced_entry e = if is_announced_entry area e then Some e.cost else None

  own_route : (r : RouteValue) → r.kind ≡ Intra → announced_route r ≡ route_cost area r
  own_route r kind = by (list_any (λ a. a.0 == area.0) r.areas) (is_backbone area)
    where
      by : (through bb : Bool) → (if not through && (not bb || is_intra r.kind) then Some r.cost else None) ≡ (if through then None else Some r.cost)
      by true bb = refl
      by false true = ap (λ k. if is_intra k then Some r.cost else None) kind
      by false false = refl

  own_entry : (e : EntryValue) → is_asbr_intra e.kind ≡ true → announced_entry e ≡ entry_cost area e
  own_entry e kind = by (e.area.0 == area.0) (is_backbone area)
    where
      by : (here bb : Bool) → (if not here && (not bb || is_asbr_intra e.kind) then Some e.cost else None) ≡ (if here then None else Some e.cost)
      by true bb = refl
      by false true = ap (λ b. if b then Some e.cost else None) kind
      by false false = refl

  route_intra : (net : Net) → IfSome (route_to intra net) (λ r. r.kind ≡ Intra)
  route_intra net = route_all (λ r. r.kind ≡ Intra) intra net (all_intra results)

  -- ---- into the backbone

  module _ (is : is_backbone area ≡ true) where
    none_else : (announced : Option ℕ) → None ≡ (if is_backbone area then None else announced)
    none_else announced = ap (λ b. if b then None else announced) (sym is)

    net_there : (net : Net) (announced : Option ℕ) → cost_of_net area intra net ≡ else_announced area (option_map (route_cost area) (route_to intra net)) announced
    net_there net announced = by (route_to intra net) (route_intra net)
      where
        by : (o : Option RouteValue) → IfSome o (λ r. r.kind ≡ Intra) → option_and_then announced_route o ≡ else_announced area (option_map (route_cost area) o) announced
        by None h = none_else announced
        by (Some r) h = own_route r h

    asbr_there : (asbr : RouterId) (announced : Option ℕ)
        → cost_of_asbr area entries asbr ≡ else_announced area (option_map (entry_cost area) (preferred entries asbr)) announced
    asbr_there asbr announced = by (preferred entries asbr) (first_entry db router (attached_areas db router) asbr)
      where
        by : (o : Option EntryValue) → IfSome o (IsFirst db router (attached_areas db router) asbr)
            → option_and_then announced_entry o ≡ else_announced area (option_map (entry_cost area) o) announced
        by None h = none_else announced
        by (Some e) h = own_entry e h.0

    net_backbone : (net : Net) → cost_of_net area (routes_inside db router) net ≡ net_cost db area router results net
    unfolding inter_of
    net_backbone net =
        net_into_backbone area is intra (routes_by db router intra (examined results)) (routes_inter db router intra (examined results)) net
        ∙ net_there net (announced_cost router (backbone_entries results) (net_sources db net))

    asbr_backbone : (asbr : RouterId) → cost_of_asbr area (entries_inside db router) asbr ≡ asbr_cost db area router results asbr
    unfolding inter_of
    asbr_backbone asbr =
        asbr_into_backbone area is entries (entries_by db router (examined results)) (entries_inter db router (examined results)) asbr
        ∙ asbr_there asbr (if same_router asbr router then None else announced_cost router (backbone_entries results) (asbr_sources db asbr))

  -- ---- into another area

  module _ (other : is_backbone area ≡ false) (examines : examined results ≡ backbone results) where
    announced_else : (announced : Option ℕ) → announced ≡ (if is_backbone area then None else announced)
    announced_else announced = ap (λ b. if b then None else announced) (sym other)

    abbrev entries_or_none : Option AreaResultValue → List EntryValue
    entries_or_none o = option_map_or (λ (r : AreaResultValue). r.entries) o []

    announced_net : (net : Net) → route_to intra net ≡ None
        → option_and_then announced_route (route_to (routes_by db router intra (examined results)) net)
        ≡ announced_cost router (backbone_entries results) (net_sources db net)
    announced_net net none = ap (λ o. option_and_then announced_route (route_to (routes_by db router intra o) net)) examines ∙ by (backbone results) refl
      where
        by : (o : Option AreaResultValue) → backbone results ≡ o
            → option_and_then announced_route (route_to (routes_by db router intra o) net) ≡ announced_cost router (entries_or_none o) (net_sources db net)
        by None h = sym (ap (least nat_cmp) (nothing_announced router (net_sources db net)))
        by (Some r) h =
            let is = found_backbone results r h in
            ap (λ lsas. option_and_then announced_route (route_to (inter_routes router r intra lsas) net)) (lsas_at db r.area is)
            ∙ inter_cost router r (backbone_lsas db) area (apart_from r.area area is other) other intra net (ap is_some none)

    net_elsewhere : (net : Net) → cost_of_net area (routes_inside db router) net ≡ net_cost db area router results net
    unfolding inter_of
    net_elsewhere net =
        ap (option_and_then announced_route) (route_preferring intra (routes_by db router intra (examined results)) net)
        ∙ by (route_to intra net) refl (route_intra net)
      where
        by : (o : Option RouteValue) → route_to intra net ≡ o → IfSome o (λ r. r.kind ≡ Intra)
            → option_and_then announced_route (option_or o (route_to (routes_by db router intra (examined results)) net))
            ≡ else_announced area (option_map (route_cost area) o) (announced_cost router (backbone_entries results) (net_sources db net))
        by None h kind = announced_net net h ∙ announced_else (announced_cost router (backbone_entries results) (net_sources db net))
        by (Some r) h kind = own_route r kind

    module _ (asbr : RouterId) where
      abbrev of_asbr : List EntryValue → List EntryValue
      of_asbr es = filter (is_asbr asbr) es

      -- the cost by the backbone summaries, with the entries of the backbone
      abbrev announced_by : List EntryValue → Option ℕ
      announced_by es = if same_router asbr router then None else announced_cost router es (asbr_sources db asbr)

      -- an entry that is there is preferred to those by summary-LSAs
      still_first : (r : AreaResultValue) → backbone results ≡ Some r → (e : EntryValue) → preferred entries asbr ≡ Some e
          → least preference (of_asbr entries ++ of_asbr (entries_by db router (Some r))) ≡ Some e
      still_first r h e own =
          ⊎_elim (λ same. same ∙ own)
          (λ inside. ⊎_elim
          (λ out. absurd (true≢false (sym out ∙ subst (λ o. IfSome o (λ x. is_outside x ≡ false)) own (inside_of (preferred entries asbr) inside.1))))
          (λ has. ap (λ ys. least preference (of_asbr entries ++ ys)) (none_least (of_asbr (entries_by db router (Some r)))
          (asbr_none router r (lsas_of (Area r.area) db) asbr (announced_already (ap (λ o. has_asbr (entries_or_none o) asbr) (sym h) ∙ has))))
          ∙ ap (least preference) (append-nil (of_asbr entries)) ∙ own)
          (first e own (first_entry db router (attached_areas db router) asbr)).1)
          (least_alike (of_asbr entries) (of_asbr (entries_by db router (Some r)))
          (All-filter (is_asbr asbr) (λ x. x.kind ≡ AsbrInter) (entries_by db router (Some r)) (entries_inter db router (Some r))))
        where
          inside_of : (o : Option EntryValue) → IsInside o → IfSome o (λ x. is_outside x ≡ false)
          inside_of None h = tt
          inside_of (Some x) h = h

          announced_already : has_asbr r.entries asbr ≡ true → (same_router asbr router || has_asbr r.entries asbr) ≡ true
          announced_already k = by (same_router asbr router)
            where
              by : (b : Bool) → (b || has_asbr r.entries asbr) ≡ true
              by true = refl
              by false = k

          first : (x : EntryValue) → preferred entries asbr ≡ Some x
              → IfSome (preferred entries asbr) (IsFirst db router (attached_areas db router) asbr) → IsFirst db router (attached_areas db router) asbr x
          first x is found = subst (λ o. IfSome o (IsFirst db router (attached_areas db router) asbr)) is found

      -- where there is none, the cost is that by the summary-LSAs
      announced_alone : (r : AreaResultValue) → backbone results ≡ Some r → of_asbr entries ≡ []
          → option_and_then announced_entry (least preference (of_asbr (entries_by db router (Some r)))) ≡ announced_by r.entries
      announced_alone r h none = by (same_router asbr router) refl
        where
          is : is_backbone r.area ≡ true
          is = found_backbone results r h

          by : (b : Bool) → same_router asbr router ≡ b
              → option_and_then announced_entry (least preference (of_asbr (entries_by db router (Some r))))
              ≡ (if b then None else announced_cost router r.entries (asbr_sources db asbr))
          by true e =
              ap (option_and_then announced_entry) (asbr_none router r (lsas_of (Area r.area) db) asbr (ap (λ b. b || has_asbr r.entries asbr) e))
          by false e =
              ap (λ lsas. option_and_then announced_entry (least preference (of_asbr (inter_entries router r lsas)))) (lsas_at db r.area is)
              ∙ asbr_inter_cost router r (backbone_lsas db) asbr area (apart_from r.area area is other) other e
              (backbone_lacks asbr results none r h)

      asbr_announced_by : (o : Option AreaResultValue) → backbone results ≡ o
          → option_and_then announced_entry (least preference (of_asbr entries ++ of_asbr (entries_by db router o)))
          ≡ else_announced area (option_map (entry_cost area) (preferred entries asbr)) (announced_by (entries_or_none o))
      asbr_announced_by None h =
          ap (λ es. option_and_then announced_entry (least preference es)) (append-nil (of_asbr entries))
          ∙ by (preferred entries asbr) (first_entry db router (attached_areas db router) asbr)
        where
          nothing : (b : Bool) → None ≡ (if b then None else announced_cost router [] (asbr_sources db asbr))
          nothing true = refl
          nothing false = sym (ap (least nat_cmp) (nothing_announced router (asbr_sources db asbr)))

          by : (o : Option EntryValue) → IfSome o (IsFirst db router (attached_areas db router) asbr)
              → option_and_then announced_entry o ≡ else_announced area (option_map (entry_cost area) o) (announced_by [])
          by None h = nothing (same_router asbr router) ∙ announced_else (announced_by [])
          by (Some e) h = own_entry e h.0
      asbr_announced_by (Some r) h = by (preferred entries asbr) refl (first_entry db router (attached_areas db router) asbr)
        where
          by : (o : Option EntryValue) → preferred entries asbr ≡ o → IfSome o (IsFirst db router (attached_areas db router) asbr)
              → option_and_then announced_entry (least preference (of_asbr entries ++ of_asbr (entries_by db router (Some r))))
              ≡ else_announced area (option_map (entry_cost area) o) (announced_by r.entries)
          by None own kind =
              let none : of_asbr entries ≡ [] = none_least (of_asbr entries) own in
              ap (λ xs. option_and_then announced_entry (least preference (xs ++ of_asbr (entries_by db router (Some r))))) none
              ∙ announced_alone r h none ∙ announced_else (announced_by r.entries)
          by (Some e) own kind = ap (option_and_then announced_entry) (still_first r h e own) ∙ own_entry e kind.0

      asbr_elsewhere : cost_of_asbr area (entries_inside db router) asbr ≡ asbr_cost db area router results asbr
      unfolding inter_of
      asbr_elsewhere =
          ap (λ es. option_and_then announced_entry (least preference es)) (filter-append (is_asbr asbr) entries (entries_by db router (examined results)))
          ∙ ap (λ o. option_and_then announced_entry (least preference (of_asbr entries ++ of_asbr (entries_by db router o)))) examines
          ∙ asbr_announced_by (backbone results) refl

-- ---- the metric

module _ (db : Lists) (area : AreaId) (lsa : List ℕ) (covered : is_covered db area lsa ≡ true) where
  abbrev router : RouterId
  router = originator_of lsa

  examines : examined (results_of db router) ≡ backbone (results_of db router)
  examines = examines_backbone db area router (and_parts (is_calculated db area lsa) (borders db area router) covered).1

  net_is : (b : Bool) → is_backbone area ≡ b → (net : Net)
      → cost_of_net area (routes_inside db router) net ≡ net_cost db area router (results_of db router) net
  net_is true h = net_backbone db area router h
  net_is false h = net_elsewhere db area router h examines

  asbr_is : (b : Bool) → is_backbone area ≡ b → (asbr : RouterId)
      → cost_of_asbr area (entries_inside db router) asbr ≡ asbr_cost db area router (results_of db router) asbr
  asbr_is true h = asbr_backbone db area router h
  asbr_is false h = asbr_elsewhere db area router h examines

  pub due_metric : due_in db area lsa ≡ due_by_backbone db area lsa
  unfolding due_in
  due_metric = λ i.
      option_map_or metric_for
      (option_or (option_and_then (λ net. net_is (is_backbone area) refl net i) (net_of_summary lsa))
      (option_and_then (λ asbr. asbr_is (is_backbone area) refl asbr i) (asbr_of_summary db area lsa))) ls_infinity
