-- The cost of the way to a key is the minimum over the summary-LSAs for the key.
use Rattle.std.proofs.Common.{◌≡◌, ℕ, ◌+◌, Bool, true, false, cond, List, [], ◌∷◌, filter, map, Option, Some, None, IfSome, refl, sym, ap, ◌∙◌}
use Rattle.std.specs.Prelude.{◌&&◌, ◌||◌, not, nat_lt, if◌then◌else◌}
use Rattle.std.specs.List.{All, list_any, filter_map, cons_option}
use Rattle.std.specs.BTreeSet.{insert_key}
use Rattle.std.specs.Option.{option_and_then, option_map}
use Rattle.std.specs.Ordering.{eq_by_cmp, is_lt, match_ordering, nat_cmp}
use Rattle.std.specs.declared.cmp.Ordering.{Ordering}
use Rattle.std.specs.declared.cmp.Ordering.TheVariants.{Less, Equal, Greater}
use Rattle.std.proofs.lemmas.Bool.{or_parts}
use Rattle.std.proofs.lemmas.List.Elements.{All-filter, All-head, All-tail}
use Rattle.lsa_codec.specs.declared.address.AreaId.{AreaId}
use Rattle.lsa_codec.specs.declared.address.RouterId.{RouterId}
use Rattle.lsa_codec.specs.Order.{area_cmp}
use Rattle.lsa_codec.specs.Views.{ls_infinity, metric_of}
use Rattle.area_graph.specs.Area.{is_live}
use Rattle.area_graph.specs.Least.{least, lesser}
use Rattle.area_graph.specs.Rising.{rising}
use Rattle.best_ways.specs.declared.rank.PathType.TheVariants.{Inter}
use Rattle.best_ways.specs.declared.rank.Rank.{Rank}
use Rattle.best_ways.specs.Best.{joined, of_rank, way_of, way_to}
use Rattle.best_ways.specs.Candidate.{Candidate}
use Rattle.area_routes.specs.Inter.{border_of, by_border, candidate_to, is_summary, originator_of, same_router, usable_metric}
use Rattle.best_ways.specs.Order.{rank_cmp}
use Rattle.area_routes.specs.Values.{AreaResultValue, EntryValue}
use Rattle.best_ways.specs.Values.{WayValue}
use Rattle.best_ways.proofs.WayLemmas.{All-filter_map}
use Rattle.summary_metrics.specs.BackboneSummaries.{is_at, is_source, source_of, sources}
use Rattle.summary_metrics.specs.steps.AnnouncedCosts.{cost_over, announced_cost}

pub and_false : (b : Bool) → (b && false) ≡ false
and_false true = refl
and_false false = refl

-- ---- the least of ranks of inter-area paths

abbrev inter_rank : ℕ → Rank
inter_rank cost = record { path = Inter; cost2 = 0; class = 0; cost = cost }

lesser_rank : (a : ℕ) (o : Option ℕ) → lesser rank_cmp (inter_rank a) (option_map inter_rank o) ≡ inter_rank (lesser nat_cmp a o)
lesser_rank a None = refl
lesser_rank a (Some b) = by (is_lt (nat_cmp b a))
  where
    by : (c : Bool) → cond c (inter_rank b) (inter_rank a) ≡ inter_rank (cond c b a)
    by true = refl
    by false = refl

least_rank : (costs : List ℕ) → least rank_cmp (map inter_rank costs) ≡ option_map inter_rank (least nat_cmp costs)
least_rank [] = refl
least_rank (c ∷ costs) = ap (λ o. Some (lesser rank_cmp (inter_rank c) o)) (least_rank costs) ∙ ap Some (lesser_rank c (least nat_cmp costs))

-- ---- the candidates of summary-LSAs

module _ {K : Type 0} (R : K → K → Ordering) (router : RouterId) (area : AreaResultValue) where
  -- the candidates of LSAs by their destinations
  abbrev pub candidates : (List ℕ → Option K) → List (List ℕ) → List (Candidate K)
  candidates announced lsas = filter_map (λ lsa. option_and_then (candidate_to router area lsa) (announced lsa)) lsas

  -- the candidates of a key
  abbrev of_key : K → List (Candidate K) → List (Candidate K)
  of_key q cs = filter (λ c. eq_by_cmp R q c.key) cs

  -- the costs of LSAs
  abbrev costs_of : List (List ℕ) → List ℕ
  costs_of lsas = filter_map (cost_over router area.entries) (map source_of lsas)

  with_cost : (lsa : List ℕ) (lsas : List (List ℕ)) (b : Bool) → costs_of (cond b (lsa ∷ lsas) lsas)
      ≡ cond b (cons_option (cost_over router area.entries (source_of lsa)) (costs_of lsas)) (costs_of lsas)
  with_cost lsa lsas true = refl
  with_cost lsa lsas false = refl

  -- an LSA for the key
  this_key : (q key : K) (lsa : List ℕ) (cs : List (Candidate K)) (lsas : List (List ℕ)) → eq_by_cmp R q key ≡ true
      → map (λ c. c.rank) (of_key q cs) ≡ map inter_rank (costs_of lsas)
      → map (λ c. c.rank) (of_key q (cons_option (candidate_to router area lsa key) cs))
      ≡ map inter_rank (costs_of (cond (is_source lsa && true) (lsa ∷ lsas) lsas))
  this_key q key lsa cs lsas same rest =
      by (is_summary lsa) (is_live lsa) (nat_lt (metric_of lsa) ls_infinity) (same_router (originator_of lsa) router)
      (border_of area.entries (originator_of lsa))
      ∙ sym (ap (map inter_rank) (with_cost lsa lsas (is_source lsa && true)))
    where
      by : (s l b o : Bool) (border : Option EntryValue)
          → map (λ c. c.rank) (of_key q (cons_option (option_and_then (λ m. option_map (by_border key area.area m) border)
          (if s && (l && (b && not o)) then Some (metric_of lsa) else None)) cs))
          ≡ map inter_rank (cond ((s && (l && b)) && true)
          (cons_option (if o then None else option_map (λ e. e.cost + metric_of lsa) border) (costs_of lsas)) (costs_of lsas))
      by false l b o border = rest
      by true false b o border = rest
      by true true false o border = rest
      by true true true true border = rest
      by true true true false None = rest
      by true true true false (Some e) =
          ap (λ c. map (λ c. c.rank) (cond c (by_border key area.area (metric_of lsa) e ∷ of_key q cs) (of_key q cs))) same
          ∙ ap (λ l. inter_rank (e.cost + metric_of lsa) ∷ l) rest

  -- an LSA for another key
  other_key : (q key : K) (lsa : List ℕ) (cs : List (Candidate K)) → eq_by_cmp R q key ≡ false
      → of_key q (cons_option (candidate_to router area lsa key) cs) ≡ of_key q cs
  other_key q key lsa cs apart = by (usable_metric router lsa) (border_of area.entries (originator_of lsa))
    where
      by : (metric : Option ℕ) (border : Option EntryValue)
          → of_key q (cons_option (option_and_then (λ m. option_map (by_border key area.area m) border) metric) cs) ≡ of_key q cs
      by None border = refl
      by (Some m) None = refl
      by (Some m) (Some e) = ap (λ b. cond b (by_border key area.area m e ∷ of_key q cs) (of_key q cs)) apart

  module _ (q : K) (announced key_of : List ℕ → Option K) (alike : (lsa : List ℕ) → is_at R q (announced lsa) ≡ is_at R q (key_of lsa)) where
    -- the usable LSAs for the key
    abbrev announcing : List (List ℕ) → List (List ℕ)
    announcing lsas = filter (λ lsa. is_source lsa && is_at R q (key_of lsa)) lsas

    -- the costs with one more LSA, if it is usable and for the key
    abbrev costs_with : List ℕ → List (List ℕ) → Bool → List ℕ
    costs_with lsa lsas b = costs_of (cond (is_source lsa && b) (lsa ∷ announcing lsas) (announcing lsas))

    ranks_are : (lsas : List (List ℕ)) → map (λ c. c.rank) (of_key q (candidates announced lsas)) ≡ map inter_rank (costs_of (announcing lsas))
    ranks_are [] = refl
    ranks_are (lsa ∷ lsas) = by (announced lsa) (alike lsa) (ranks_are lsas)
      where
        unsaid : (b : Bool) → false ≡ b → costs_with lsa lsas b ≡ costs_of (announcing lsas)
        unsaid b h = ap (costs_with lsa lsas) (sym h) ∙ ap (λ c. costs_of (cond c (lsa ∷ announcing lsas) (announcing lsas))) (and_false (is_source lsa))

        by : (o : Option K) → is_at R q o ≡ is_at R q (key_of lsa)
            → map (λ c. c.rank) (of_key q (candidates announced lsas)) ≡ map inter_rank (costs_of (announcing lsas))
            → map (λ c. c.rank) (of_key q (cons_option (option_and_then (candidate_to router area lsa) o) (candidates announced lsas)))
            ≡ map inter_rank (costs_with lsa lsas (is_at R q (key_of lsa)))
        by None h rest = rest ∙ sym (ap (map inter_rank) (unsaid (is_at R q (key_of lsa)) h))
        by (Some key) h rest = at (eq_by_cmp R q key) refl
          where
            at : (b : Bool) → eq_by_cmp R q key ≡ b
                → map (λ c. c.rank) (of_key q (cons_option (candidate_to router area lsa key) (candidates announced lsas)))
                ≡ map inter_rank (costs_with lsa lsas (is_at R q (key_of lsa)))
            at true e =
                this_key q key lsa (candidates announced lsas) (announcing lsas) e rest
                ∙ ap (λ b. map inter_rank (costs_with lsa lsas b)) (sym e ∙ h)
            at false e =
                ap (map (λ c. c.rank)) (other_key q key lsa (candidates announced lsas) e) ∙ rest
                ∙ sym (ap (map inter_rank) (unsaid (is_at R q (key_of lsa)) (sym e ∙ h)))

    cost_of_way : (cs : List (Candidate K)) → option_map (λ w. w.rank.cost) (way_of cs)
        ≡ option_map (λ r. r.cost) (least rank_cmp (map (λ c. c.rank) cs))
    cost_of_way cs = by (least rank_cmp (map (λ c. c.rank) cs))
      where
        by : (o : Option Rank) → option_map (λ (w : WayValue). w.rank.cost) (option_map (λ r. joined r (of_rank r cs)) o) ≡ option_map (λ r. r.cost) o
        by None = refl
        by (Some r) = refl

    cost_of_rank : (o : Option ℕ) → option_map (λ (r : Rank). r.cost) (option_map inter_rank o) ≡ o
    cost_of_rank None = refl
    cost_of_rank (Some c) = refl

    -- the cost of the way to the key
    pub way_cost : (lsas : List (List ℕ)) → option_map (λ w. w.rank.cost) (way_to R (candidates announced lsas) q)
        ≡ announced_cost router area.entries (sources R key_of lsas q)
    way_cost lsas =
        cost_of_way (of_key q (candidates announced lsas))
        ∙ ap (λ rs. option_map (λ r. r.cost) (least rank_cmp rs)) (ranks_are lsas)
        ∙ ap (option_map (λ r. r.cost)) (least_rank (costs_of (announcing lsas))) ∙ cost_of_rank (least nat_cmp (costs_of (announcing lsas)))

-- ---- the area of the ways

module _ (p : AreaId → Bool) where
  none_inserted : (areas : List AreaId) (a : AreaId) → list_any p areas ≡ false → p a ≡ false → list_any p (insert_key area_cmp areas a) ≡ false
  none_inserted [] a none h = ap (λ b. b || false) h
  none_inserted (x ∷ xs) a none h =
      let parts = or_parts (p x) (list_any p xs) none in
      by (area_cmp a x) parts.0 (none_inserted xs a parts.1 h)
    where
      by : (r : Ordering) → p x ≡ false → list_any p (insert_key area_cmp xs a) ≡ false
          → list_any p (match_ordering r (a ∷ x ∷ xs) (x ∷ xs) (x ∷ insert_key area_cmp xs a)) ≡ false
      by Less here rest = ap (λ b. b || list_any p (x ∷ xs)) h ∙ none
      by Equal here rest = none
      by Greater here rest = ap (λ b. b || list_any p (insert_key area_cmp xs a)) here ∙ rest

  none_rising : (areas : List AreaId) → list_any p areas ≡ false → list_any p (rising area_cmp areas) ≡ false
  none_rising [] none = refl
  none_rising (a ∷ areas) none =
      let parts = or_parts (p a) (list_any p areas) none in none_inserted (rising area_cmp areas) a (none_rising areas parts.1) parts.0

  module _ {K : Type 0} (only : AreaId) (other : p only ≡ false) where
    none_through : (cs : List (Candidate K)) → All (λ c. c.area ≡ Some only) cs → list_any p (filter_map (λ c. c.area) cs) ≡ false
    none_through [] all = refl
    none_through (c ∷ cs) all =
        let P : Candidate K → Type 0 = λ c. c.area ≡ Some only in
        ap (λ o. list_any p (cons_option o (filter_map (λ c. c.area) cs))) (All-head P c cs all)
        ∙ ap (λ b. b || list_any p (filter_map (λ c. c.area) cs)) other ∙ none_through cs (All-tail P c cs all)

    way_through : (cs : List (Candidate K)) → All (λ c. c.area ≡ Some only) cs → IfSome (way_of cs) (λ w. list_any p w.areas ≡ false)
    way_through cs all = by (least rank_cmp (map (λ c. c.rank) cs))
      where
        by : (o : Option Rank) → IfSome (option_map (λ r. joined r (of_rank r cs)) o) (λ (w : WayValue). list_any p w.areas ≡ false)
        by None = tt
        by (Some r) =
            none_rising (filter_map (λ c. c.area) (of_rank r cs))
            (none_through (of_rank r cs) (All-filter (λ c. eq_by_cmp rank_cmp r c.rank) (λ c. c.area ≡ Some only) cs all))

module _ {K : Type 0} (R : K → K → Ordering) (router : RouterId) (area : AreaResultValue) where
  all_through : (announced : List ℕ → Option K) (lsas : List (List ℕ)) → All (λ c. c.area ≡ Some area.area) (candidates R router area announced lsas)
  all_through announced lsas = All-filter_map (λ (c : Candidate K). c.area ≡ Some area.area)
      (λ lsa. option_and_then (candidate_to router area lsa) (announced lsa)) (λ lsa. by (announced lsa) lsa) lsas
    where
      over : (key : K) (metric : Option ℕ) (border : Option EntryValue)
          → IfSome (option_and_then (λ m. option_map (by_border key area.area m) border) metric) (λ (c : Candidate K). c.area ≡ Some area.area)
      over key None border = tt
      over key (Some m) None = tt
      over key (Some m) (Some e) = refl

      by : (o : Option K) (lsa : List ℕ) → IfSome (option_and_then (candidate_to router area lsa) o) (λ (c : Candidate K). c.area ≡ Some area.area)
      by None lsa = tt
      by (Some key) lsa = over key (usable_metric router lsa) (border_of area.entries (originator_of lsa))

  -- no way leads through another area
  pub way_apart : (p : AreaId → Bool) → p area.area ≡ false → (announced : List ℕ → Option K) (lsas : List (List ℕ)) (q : K)
      → IfSome (way_to R (candidates R router area announced lsas) q) (λ w. list_any p w.areas ≡ false)
  way_apart p other announced lsas q =
      way_through p area.area other (filter (λ c. eq_by_cmp R q c.key) (candidates R router area announced lsas))
      (All-filter (λ c. eq_by_cmp R q c.key) (λ c. c.area ≡ Some area.area) (candidates R router area announced lsas) (all_through announced lsas))
