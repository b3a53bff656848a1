-- Each covered LSA of the refreshed database has the metric that it should have there, and refreshing it again changes
-- nothing.
use Rattle.std.proofs.Common.{◌≡◌, ℕ, Bool, true, false, cond, List, [], ◌∷◌, map, Option, Some, None, refl, sym, subst, ap, ◌∙◌}
use Rattle.std.specs.Prelude.{◌==◌, ◌&&◌, not}
use Rattle.std.specs.List.{All}
use Rattle.std.specs.Option.{option_and_then, option_map_or, option_or}
use Rattle.std.proofs.lemmas.Bool.{and_parts, eq-eqb}
use Rattle.std.proofs.lemmas.List.Elements.{All-cons, All-head, All-nil, All-tail, All-weaker}
use Rattle.lsa_codec.specs.Accepted.{IsAccepted}
use Rattle.lsa_codec.specs.Areas.{is_backbone}
use Rattle.lsa_codec.specs.LsTypes.{asbr_summary_lsa}
use Rattle.lsa_codec.specs.declared.address.AreaId.{AreaId}
use Rattle.lsa_codec.specs.declared.address.RouterId.{RouterId}
use Rattle.lsa_codec.specs.Fields.{kind_of}
use Rattle.lsa_codec.specs.Originating.{with_metric}
use Rattle.lsa_codec.specs.Views.{ls_infinity, metric_of, net_of_summary}
use Rattle.lsdb.specs.declared.section.Section.TheVariants.{Area}
use Rattle.lsdb.specs.Lists.{AreaHead, IsDatabase, IsSection, Lists, SectionLsas, lsas_of}
use Rattle.area_routes.specs.Inter.{inter_of, named_router, originator_of}
use Rattle.area_routes.specs.Intra.{intra_of}
use Rattle.area_routes.specs.Values.{AreaResultValue}
use Rattle.external_routes.specs.Summaries.{borders, cost_of_asbr, cost_of_net, is_calculated, is_covered, metric_for}
use Rattle.routing_table.specs.Preferring.{preferring}
use Rattle.summary_metrics.specs.Refreshed.{AreSettled, IsSettled, due_in, id_of, is_not_backbone, is_stale, refreshed, refreshed_areas}
use Rattle.area_routes.specs.AreaResults.{results_of}
use Rattle.summary_metrics.specs.Refreshed.{refreshed_lsa, refreshed_lsas, refreshed_section}
use Rattle.summary_metrics.proofs.IntoBackbone.{due_of_backbone}
use Rattle.summary_metrics.proofs.Passes.{AreAccepted, areas_kept, graph_kept, lsa_metric, lsa_reannounced, others_kept, still_accepted}
use Rattle.summary_metrics.proofs.Reannounced.{covered_reannounced, due_reannounced}
use Rattle.summary_metrics.proofs.SameGraphs.{HaveSameGraphs, covered_alike, results_alike, stub_alike}
use Rattle.summary_metrics.proofs.Several.{examines_backbone, inter_alike}

-- ---- what is announced outside the backbone depends on the backbone's summary-LSAs too

covered_borders : (db : Lists) (area : AreaId) (lsa : List ℕ) → is_covered db area lsa ≡ true → borders db area (originator_of lsa) ≡ true
covered_borders db area lsa h = (and_parts (is_calculated db area lsa) (borders db area (originator_of lsa)) h).1

module _ (db new : Lists) (same : HaveSameGraphs db new) where
  module _ (backbone_same : lsas_of (Area (record { 0 = 0 })) new ≡ lsas_of (Area (record { 0 = 0 })) db)
      (area : AreaId) (lsa : List ℕ) (covered : is_covered db area lsa ≡ true) where
    abbrev router : RouterId
    router = originator_of lsa

    inter_same : inter_of new router (results_of new router) (intra_of (results_of new router))
        ≡ inter_of db router (results_of db router) (intra_of (results_of db router))
    inter_same =
        ap (λ (results : List AreaResultValue). inter_of new router results (intra_of results)) (results_alike db new same router)
        ∙ inter_alike db new backbone_same router (results_of db router) (intra_of (results_of db router))
        (examines_backbone db area router (covered_borders db area lsa covered))

    pub due_elsewhere : due_in new area lsa ≡ due_in db area lsa
    unfolding due_in
    due_elsewhere = λ i.
        option_map_or metric_for
        (option_or
        (option_and_then (cost_of_net area (preferring (intra_of (results_alike db new same router i)) (inter_same i).routes)) (net_of_summary lsa))
        (option_and_then (cost_of_asbr area (inter_same i).routers)
        (cond ((kind_of lsa == asbr_summary_lsa) && not (stub_alike db new same area i)) (Some (named_router lsa)) None))) ls_infinity

-- ---- an LSA refreshed by one database is not stale in another where the same LSAs are covered and should
-- have the same metrics

module _ (base new : Lists) (area : AreaId) (same_covered : (lsa : List ℕ) → is_covered new area lsa ≡ is_covered base area lsa)
    (same_due : (lsa : List ℕ) → is_covered base area lsa ≡ true → due_in new area lsa ≡ due_in base area lsa) where
  -- the LSA as it is refreshed by the first
  abbrev made : List ℕ → List ℕ
  made lsa = refreshed_lsa base area lsa

  fresh_lsa : (lsa : List ℕ) → IsAccepted lsa → is_stale new area (refreshed_lsa base area lsa) ≡ false
  fresh_lsa lsa old = by (is_covered base area lsa) refl
    where
      covered_is : is_covered new area (made lsa) ≡ is_covered base area lsa
      covered_is = covered_reannounced lsa (made lsa) (lsa_reannounced base area lsa old) new area ∙ same_covered lsa

      and_false : (b : Bool) → (b && false) ≡ false
      and_false true = refl
      and_false false = refl

      by : (b : Bool) → is_covered base area lsa ≡ b → is_stale new area (made lsa) ≡ false
      by false h = ap (λ b. b && not (metric_of (made lsa) == due_in new area (made lsa))) (covered_is ∙ h)
      by true h =
          let has : metric_of (made lsa) ≡ due_in new area (made lsa) =
          lsa_metric base area lsa old h ∙ sym (due_reannounced lsa (made lsa) (lsa_reannounced base area lsa old) new area ∙ same_due lsa h) in
          ap (λ b. is_covered new area (made lsa) && not b) (eq-eqb (metric_of (made lsa)) (due_in new area (made lsa)) has)
          ∙ and_false (is_covered new area (made lsa))

  fresh_lsas : (lsas : List (List ℕ)) → All IsAccepted lsas → All (λ lsa. is_stale new area lsa ≡ false) (map (refreshed_lsa base area) lsas)
  fresh_lsas [] all = All-nil (λ (lsa : List ℕ). is_stale new area lsa ≡ false)
  fresh_lsas (lsa ∷ lsas) all =
      All-cons (λ (l : List ℕ). is_stale new area l ≡ false) (refreshed_lsa base area lsa) (map (refreshed_lsa base area) lsas)
      (fresh_lsa lsa (All-head IsAccepted lsa lsas all)) (fresh_lsas lsas (All-tail IsAccepted lsa lsas all))

-- ---- the two passes

chained : (db middle new : Lists) → HaveSameGraphs db middle → HaveSameGraphs middle new → HaveSameGraphs db new
chained db middle new a b = record { areas = b.areas ∙ a.areas; lsas = λ area. b.lsas area ∙ a.lsas area }

pass_same : (chosen : AreaId → Bool) (db : Lists) → AreAccepted db → HaveSameGraphs db (refreshed_areas chosen db)
pass_same chosen db all = record { areas = areas_kept chosen db; lsas = λ area. graph_kept chosen db (Area area) all }

module _ (db : Lists) (accepted : AreAccepted db) where
  abbrev first : Lists
  first = refreshed_areas is_backbone db

  first_accepted : AreAccepted first
  first_accepted = still_accepted is_backbone db accepted

  first_same : HaveSameGraphs db first
  first_same = pass_same is_backbone db accepted

  second_same : HaveSameGraphs first (refreshed db)
  second_same = pass_same is_not_backbone first first_accepted

  both_same : HaveSameGraphs db (refreshed db)
  both_same = chained db first (refreshed db) first_same second_same

  -- the LSAs of an area after the first pass and after both, by whether it is the backbone
  abbrev after_first : Bool → AreaId → List (List ℕ) → List (List ℕ)
  after_first b area lsas = cond b (map (refreshed_lsa db area) lsas) lsas

  abbrev after_both : Bool → AreaId → List (List ℕ) → List (List ℕ)
  after_both b area lsas = cond (not b) (map (refreshed_lsa first area) (after_first b area lsas)) (after_first b area lsas)

  settled_section : (head : Option AreaHead) (lsas : List (List ℕ)) → All IsAccepted lsas
      → AreSettled (refreshed db) head (refreshed_lsas first is_not_backbone head (refreshed_lsas db is_backbone head lsas))
  settled_section None lsas all = tt
  settled_section (Some head) lsas all = by (is_backbone (id_of head)) refl
    where
      by : (b : Bool) → is_backbone (id_of head) ≡ b
          → All (λ lsa. is_stale (refreshed db) (id_of head) lsa ≡ false)
          (after_both (is_backbone (id_of head)) (id_of head) lsas)
      by true h =
          subst (λ b. All (λ lsa. is_stale (refreshed db) (id_of head) lsa ≡ false) (after_both b (id_of head) lsas)) (sym h)
          (fresh_lsas db (refreshed db) (id_of head) (covered_alike db (refreshed db) both_same (id_of head))
          (λ lsa covered. due_of_backbone (id_of head) h db (refreshed db) both_same lsa) lsas all)
      by false h =
          subst (λ b. All (λ lsa. is_stale (refreshed db) (id_of head) lsa ≡ false) (after_both b (id_of head) lsas)) (sym h)
          (fresh_lsas first (refreshed db) (id_of head) (covered_alike first (refreshed db) second_same (id_of head))
          (due_elsewhere first (refreshed db) second_same (others_kept is_not_backbone first (record { 0 = 0 }) refl) (id_of head)) lsas all)

  settled_sections : (ss : Lists) → AreAccepted ss
      → All (λ s. AreSettled (refreshed db) s.area s.lsas) (map (refreshed_section first is_not_backbone) (map (refreshed_section db is_backbone) ss))
  settled_sections [] all = All-nil (λ (s : SectionLsas). AreSettled (refreshed db) s.area s.lsas)
  settled_sections (s ∷ ss) all =
      let P : SectionLsas → Type 0 = λ t. All IsAccepted t.lsas in
      All-cons (λ (t : SectionLsas). AreSettled (refreshed db) t.area t.lsas)
      (refreshed_section first is_not_backbone (refreshed_section db is_backbone s))
      (map (refreshed_section first is_not_backbone) (map (refreshed_section db is_backbone) ss))
      (settled_section s.area s.lsas (All-head P s ss all)) (settled_sections ss (All-tail P s ss all))

  all_settled : IsSettled (refreshed db)
  all_settled = settled_sections db accepted

-- ---- a settled database stays

module _ (db : Lists) (chosen : AreaId → Bool) where
  fresh_stay : (area : AreaId) (lsas : List (List ℕ)) → All (λ lsa. is_stale db area lsa ≡ false) lsas → map (refreshed_lsa db area) lsas ≡ lsas
  fresh_stay area [] all = refl
  fresh_stay area (lsa ∷ lsas) all =
      let P : List ℕ → Type 0 = λ l. is_stale db area l ≡ false in
      let here : refreshed_lsa db area lsa ≡ lsa = ap (λ b. cond b (with_metric (due_in db area lsa) lsa) lsa) (All-head P lsa lsas all) in
      let rest = fresh_stay area lsas (All-tail P lsa lsas all) in
      λ i. here i ∷ rest i

  section_stays : (head : Option AreaHead) (lsas : List (List ℕ)) → AreSettled db head lsas → refreshed_lsas db chosen head lsas ≡ lsas
  section_stays None lsas fresh = refl
  section_stays (Some head) lsas fresh = by (chosen (id_of head))
    where
      by : (b : Bool) → cond b (map (refreshed_lsa db (id_of head)) lsas) lsas ≡ lsas
      by true = fresh_stay (id_of head) lsas fresh
      by false = refl

  sections_stay : (ss : Lists) → All (λ s. AreSettled db s.area s.lsas) ss → map (refreshed_section db chosen) ss ≡ ss
  sections_stay [] all = refl
  sections_stay (s ∷ ss) all =
      let P : SectionLsas → Type 0 = λ t. AreSettled db t.area t.lsas in
      let here = section_stays s.area s.lsas (All-head P s ss all) in
      let rest = sections_stay ss (All-tail P s ss all) in
      λ i. record { area = s.area; lsas = here i } ∷ rest i

  settled_stays : IsSettled db → refreshed_areas chosen db ≡ db
  settled_stays settled = sections_stay db settled

pub accepted_of : (db : Lists) → IsDatabase db → AreAccepted db
accepted_of db is = All-weaker IsSection (λ (s : SectionLsas). All IsAccepted s.lsas) (λ s section. section.accepted) db is.sections

pub refreshed_settled : (db : Lists) → IsDatabase db → IsSettled (refreshed db)
refreshed_settled db is = all_settled db (accepted_of db is)

pub refreshed_twice : (db : Lists) → IsDatabase db → refreshed (refreshed db) ≡ refreshed db
refreshed_twice db is =
    let settled = refreshed_settled db is in
    ap (refreshed_areas is_not_backbone) (settled_stays (refreshed db) is_backbone settled) ∙ settled_stays (refreshed db) is_not_backbone settled
