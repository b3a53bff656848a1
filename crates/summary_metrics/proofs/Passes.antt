-- What refreshing some areas leaves unchanged in a database.
use Rattle.std.proofs.Common.{◌≡◌, ℕ, ◌<◌, ◌≤◌, ◌^◌, Bool, true, false, cond, List, [], ◌∷◌, map, Option, Some, None, refl, sym, ap, ◌∙◌, eqb, true≢false, arith}
use Rattle.std.specs.Prelude.{◌==◌, ◌&&◌, ◌||◌, not}
use Rattle.std.specs.List.{All, filter, find, cons_option}
use Rattle.std.specs.Option.{option_map_or}
use Rattle.std.proofs.lemmas.Bool.{and_parts, eqb-true}
use Rattle.std.proofs.lemmas.List.Elements.{All-cons, All-head, All-nil, All-tail}
use Rattle.lsa_codec.specs.declared.address.AreaId.{AreaId}
use Rattle.lsa_codec.specs.Accepted.{IsAccepted}
use Rattle.lsa_codec.specs.Fields.{kind_of}
use Rattle.lsa_codec.specs.LsTypes.{asbr_summary_lsa, network_lsa, router_lsa, summary_lsa}
use Rattle.lsa_codec.specs.Originating.{with_metric}
use Rattle.lsa_codec.specs.Views.{ls_infinity, metric_of}
use Rattle.lsdb.specs.declared.section.Section.{Section}
use Rattle.lsdb.specs.declared.section.Section.TheVariants.{Area}
use Rattle.lsdb.specs.Lists.{AreaHead, Lists, SectionLsas, areas_of, is_section, lsas_of, lsas_or_none}
use Rattle.area_routes.specs.Inter.{is_summary}
use Rattle.area_routes.proofs.SameGraphLemmas.{is_graph_lsa}
use Rattle.external_routes.specs.Summaries.{announced_cost, is_calculated, is_covered, metric_for}
use Rattle.summary_metrics.specs.Refreshed.{due_in, entries_inside, id_of, is_stale, refreshed_areas, refreshed_lsa, refreshed_lsas, refreshed_section, routes_inside}
use Rattle.summary_metrics.proofs.Reannounced.{IsReannounced, metric_accepted, other_metric, reannounced, reannounced_same}

-- all LSAs of a database are accepted
abbrev pub AreAccepted : Lists → Type 0
AreAccepted db = All (λ s. All IsAccepted s.lsas) db

-- ---- a calculated metric fits its field

metric_for_most : (cost : ℕ) → metric_for cost ≤ ls_infinity
metric_for_most cost = search arith

pub due_small : (db : Lists) (area : AreaId) (lsa : List ℕ) → due_in db area lsa < 2 ^ 24
unfolding due_in
due_small db area lsa = by (announced_cost db area lsa (routes_inside db _) (entries_inside db _))
  where
    by : (o : Option ℕ) → option_map_or metric_for o ls_infinity < 2 ^ 24
    by None = omega arith
    by (Some cost) = let most = metric_for_most cost in omega arith

-- ---- one LSA

module _ (db : Lists) (area : AreaId) where
  pub stale_summary : (lsa : List ℕ) → is_stale db area lsa ≡ true → is_summary lsa ≡ true
  stale_summary lsa h = (and_parts (is_summary lsa) _ (and_parts (is_calculated db area lsa) _ (and_parts (is_covered db area lsa) _ h).0).0).0

  pub lsa_accepted : (lsa : List ℕ) → IsAccepted lsa → IsAccepted (refreshed_lsa db area lsa)
  lsa_accepted lsa old = by (is_stale db area lsa) refl
    where
      by : (b : Bool) → is_stale db area lsa ≡ b → IsAccepted (cond b (with_metric (due_in db area lsa) lsa) lsa)
      by true h = metric_accepted (due_in db area lsa) lsa old (stale_summary lsa h)
      by false h = old

  pub lsa_reannounced : (lsa : List ℕ) → IsAccepted lsa → IsReannounced lsa (refreshed_lsa db area lsa)
  lsa_reannounced lsa old = by (is_stale db area lsa) refl
    where
      by : (b : Bool) → is_stale db area lsa ≡ b → IsReannounced lsa (cond b (with_metric (due_in db area lsa) lsa) lsa)
      by true h = reannounced (due_in db area lsa) lsa old (stale_summary lsa h) (due_small db area lsa)
      by false h = reannounced_same lsa

  -- where it is covered, it has the metric that the other should have
  pub lsa_metric : (lsa : List ℕ) → IsAccepted lsa → is_covered db area lsa ≡ true → metric_of (refreshed_lsa db area lsa) ≡ due_in db area lsa
  lsa_metric lsa old covered = by (metric_of lsa == due_in db area lsa) refl
    where
      stale : (b : Bool) → (metric_of lsa == due_in db area lsa) ≡ b → is_stale db area lsa ≡ not b
      stale b h = ap (λ c. c && not (metric_of lsa == due_in db area lsa)) covered ∙ ap not h

      by : (b : Bool) → (metric_of lsa == due_in db area lsa) ≡ b → metric_of (refreshed_lsa db area lsa) ≡ due_in db area lsa
      by true h = ap (λ c. metric_of (cond c (with_metric (due_in db area lsa) lsa) lsa)) (stale true h) ∙ eqb-true (metric_of lsa) (due_in db area lsa) h
      by false h =
          ap (λ c. metric_of (cond c (with_metric (due_in db area lsa) lsa) lsa)) (stale false h)
          ∙ (other_metric (due_in db area lsa) lsa old (stale_summary lsa (stale false h)) (due_small db area lsa)).metric

  -- the LS type of router-LSAs or network-LSAs is not one of summary-LSAs
  no_summary : (kind : ℕ) → (eqb kind router_lsa || eqb kind network_lsa) ≡ true → (eqb kind summary_lsa || eqb kind asbr_summary_lsa) ≡ false
  no_summary kind h = by (eqb kind router_lsa) refl
    where
      at : (n : ℕ) → kind ≡ n → (eqb n summary_lsa || eqb n asbr_summary_lsa) ≡ false
          → (eqb kind summary_lsa || eqb kind asbr_summary_lsa) ≡ false
      at n e f = ap (λ k. eqb k summary_lsa || eqb k asbr_summary_lsa) e ∙ f

      by : (b : Bool) → eqb kind router_lsa ≡ b → (eqb kind summary_lsa || eqb kind asbr_summary_lsa) ≡ false
      by true e = at router_lsa (eqb-true kind router_lsa e) refl
      by false e = at network_lsa (eqb-true kind network_lsa (sym (ap (λ b. b || eqb kind network_lsa) e) ∙ h)) refl

  -- a router-LSA or network-LSA stays
  graph_lsa_stays : (lsa : List ℕ) → is_graph_lsa lsa ≡ true → refreshed_lsa db area lsa ≡ lsa
  graph_lsa_stays lsa h = ap (λ b. cond b (with_metric (due_in db area lsa) lsa) lsa) (by (is_stale db area lsa) refl)
    where
      by : (b : Bool) → is_stale db area lsa ≡ b → is_stale db area lsa ≡ false
      by true e = absurd (true≢false (sym (stale_summary lsa e) ∙ no_summary (kind_of lsa) h))
      by false e = e

  pub graph_lsas_stay : (lsas : List (List ℕ)) → All IsAccepted lsas → filter is_graph_lsa (map (refreshed_lsa db area) lsas) ≡ filter is_graph_lsa lsas
  graph_lsas_stay [] all = refl
  graph_lsas_stay (lsa ∷ lsas) all = by (is_graph_lsa lsa) refl (graph_lsas_stay lsas (All-tail IsAccepted lsa lsas all))
    where
      f : List ℕ → List ℕ
      f = refreshed_lsa db area

      same : is_graph_lsa (f lsa) ≡ is_graph_lsa lsa
      same = ap (λ k. eqb k router_lsa || eqb k network_lsa) (lsa_reannounced lsa (All-head IsAccepted lsa lsas all)).kind

      by : (b : Bool) → is_graph_lsa lsa ≡ b → filter is_graph_lsa (map f lsas) ≡ filter is_graph_lsa lsas
          → cond (is_graph_lsa (f lsa)) (f lsa ∷ filter is_graph_lsa (map f lsas)) (filter is_graph_lsa (map f lsas))
          ≡ cond (is_graph_lsa lsa) (lsa ∷ filter is_graph_lsa lsas) (filter is_graph_lsa lsas)
      by true h rest = λ i. cond (same i) (graph_lsa_stays lsa h i ∷ rest i) (rest i)
      by false h rest =
          ap (λ b. cond b (f lsa ∷ filter is_graph_lsa (map f lsas)) (filter is_graph_lsa (map f lsas))) (same ∙ h) ∙ rest
          ∙ sym (ap (λ b. cond b (lsa ∷ filter is_graph_lsa lsas) (filter is_graph_lsa lsas)) h)

-- ---- all sections

module _ (db : Lists) (chosen : AreaId → Bool) where
  abbrev again : SectionLsas → SectionLsas
  again = refreshed_section db chosen

  areas_stay : (ss : Lists) → areas_of (map again ss) ≡ areas_of ss
  areas_stay [] = refl
  areas_stay (s ∷ ss) = ap (cons_option s.area) (areas_stay ss)

  section_accepted : (head : Option AreaHead) (lsas : List (List ℕ)) → All IsAccepted lsas → All IsAccepted (refreshed_lsas db chosen head lsas)
  section_accepted None lsas all = all
  section_accepted (Some head) lsas all = by (chosen (id_of head))
    where
      each : (xs : List (List ℕ)) → All IsAccepted xs → All IsAccepted (map (refreshed_lsa db (id_of head)) xs)
      each [] a = All-nil IsAccepted
      each (x ∷ xs) a = All-cons IsAccepted (refreshed_lsa db (id_of head) x) (map (refreshed_lsa db (id_of head)) xs)
          (lsa_accepted db (id_of head) x (All-head IsAccepted x xs a)) (each xs (All-tail IsAccepted x xs a))

      by : (b : Bool) → All IsAccepted (cond b (map (refreshed_lsa db (id_of head)) lsas) lsas)
      by true = each lsas all
      by false = all

  section_graph : (head : Option AreaHead) (lsas : List (List ℕ)) → All IsAccepted lsas
      → filter is_graph_lsa (refreshed_lsas db chosen head lsas) ≡ filter is_graph_lsa lsas
  section_graph None lsas all = refl
  section_graph (Some head) lsas all = by (chosen (id_of head))
    where
      by : (b : Bool) → filter is_graph_lsa (cond b (map (refreshed_lsa db (id_of head)) lsas) lsas) ≡ filter is_graph_lsa lsas
      by true = graph_lsas_stay db (id_of head) lsas all
      by false = refl

  accepted_again : (ss : Lists) → AreAccepted ss → AreAccepted (map again ss)
  accepted_again [] all = All-nil (λ (s : SectionLsas). All IsAccepted s.lsas)
  accepted_again (s ∷ ss) all =
      let P : SectionLsas → Type 0 = λ s. All IsAccepted s.lsas in
      All-cons P (again s) (map again ss) (section_accepted s.area s.lsas (All-head P s ss all)) (accepted_again ss (All-tail P s ss all))

  module _ (name : Section) where
    graph_again : (ss : Lists) → AreAccepted ss → filter is_graph_lsa (lsas_of name (map again ss)) ≡ filter is_graph_lsa (lsas_of name ss)
    graph_again [] all = refl
    graph_again (s ∷ ss) all =
        let P : SectionLsas → Type 0 = λ s. All IsAccepted s.lsas in
        by (is_section name s) (graph_again ss (All-tail P s ss all)) (section_graph s.area s.lsas (All-head P s ss all))
      where
        by : (b : Bool) → filter is_graph_lsa (lsas_of name (map again ss)) ≡ filter is_graph_lsa (lsas_of name ss)
            → filter is_graph_lsa (refreshed_lsas db chosen s.area s.lsas) ≡ filter is_graph_lsa s.lsas
            → filter is_graph_lsa (lsas_or_none (cond b (Some (again s)) (find (is_section name) (map again ss))))
            ≡ filter is_graph_lsa (lsas_or_none (cond b (Some s) (find (is_section name) ss)))
        by true rest here = here
        by false rest here = rest

  -- an area that is not chosen
  module _ (area : AreaId) (other : chosen area ≡ false) where
    unchosen : (head : Option AreaHead) (lsas : List (List ℕ)) → is_section (Area area) (record { area = head; lsas = lsas }) ≡ true
        → refreshed_lsas db chosen head lsas ≡ lsas
    unchosen None lsas h = refl
    unchosen (Some head) lsas h =
        let id : head.id ≡ area.0 = eqb-true head.id area.0 h in
        ap (λ b. cond b (map (refreshed_lsa db (id_of head)) lsas) lsas) (ap (λ n. chosen (record { 0 = n })) id ∙ other)

    unchosen_stay : (ss : Lists) → lsas_of (Area area) (map again ss) ≡ lsas_of (Area area) ss
    unchosen_stay [] = refl
    unchosen_stay (s ∷ ss) = by (is_section (Area area) s) refl (unchosen_stay ss)
      where
        by : (b : Bool) → is_section (Area area) s ≡ b → lsas_of (Area area) (map again ss) ≡ lsas_of (Area area) ss
            → lsas_or_none (cond b (Some (again s)) (find (is_section (Area area)) (map again ss)))
            ≡ lsas_or_none (cond b (Some s) (find (is_section (Area area)) ss))
        by true h rest = unchosen s.area s.lsas h
        by false h rest = rest

-- ---- what callers need

module _ (chosen : AreaId → Bool) (db : Lists) where
  pub areas_kept : areas_of (refreshed_areas chosen db) ≡ areas_of db
  areas_kept = areas_stay db chosen db

  pub graph_kept : (name : Section) → AreAccepted db → filter is_graph_lsa (lsas_of name (refreshed_areas chosen db)) ≡ filter is_graph_lsa (lsas_of name db)
  graph_kept name all = graph_again db chosen name db all

  pub still_accepted : AreAccepted db → AreAccepted (refreshed_areas chosen db)
  still_accepted all = accepted_again db chosen db all

  pub others_kept : (area : AreaId) → chosen area ≡ false → lsas_of (Area area) (refreshed_areas chosen db) ≡ lsas_of (Area area) db
  others_kept area other = unchosen_stay db chosen area other db
