-- Candidates in groups: the best ways stay where each group is replaced by its own best ways.
use Rattle.std.proofs.Common.{◌≡◌, Bool, true, false, cond, List, [], ◌∷◌, ◌++◌, map, Option, Some, None, refl, sym, ap, ◌∙◌, ⊎_elim}
use Rattle.std.specs.Prelude.{◌&&◌, ◌||◌}
use Rattle.std.specs.List.{cons_option, list_any}
use Rattle.std.specs.Option.{MatchOption, option_map}
use Rattle.std.specs.Cmp.{IsTotalOrder, Equal-is}
use Rattle.std.specs.Map.{lookup}
use Rattle.std.specs.Ordering.{eq_by_cmp, is_eq, is_lt, ordering_reverse}
use Rattle.std.specs.declared.cmp.Ordering.{Ordering}
use Rattle.std.specs.declared.cmp.Ordering.TheVariants.{Less, Equal, Greater}
use Rattle.std.proofs.lemmas.Bool.{and_parts, and_from, and_cases, and_left, and_right, or_parts, false_from_ne_true, true≢false}
use Rattle.std.proofs.lemmas.List.Folds.{list_any-append}
use Rattle.std.proofs.lemmas.Map.Lookups.{CmpEqualImpliesEq}
use Rattle.lsa_codec.specs.declared.address.AreaId.{AreaId}
use Rattle.lsa_codec.specs.Order.{area_cmp}
use Rattle.area_graph.specs.Rising.{rising}
use Rattle.next_hops.specs.Hop.{hop_cmp}
use Rattle.next_hops.specs.declared.hop.Hop.{Hop}
use Rattle.best_ways.specs.declared.rank.Rank.{Rank}
use Rattle.best_ways.specs.Best.{way_to, ways_of}
use Rattle.best_ways.specs.Candidate.{Candidate}
use Rattle.best_ways.specs.InWords.{attains, is_candidate_to, is_some_and, AreBestWays, IsBestWay}
use Rattle.best_ways.specs.Order.{rank_cmp}
use Rattle.best_ways.specs.Values.{WayValue}
use Rattle.best_ways.proofs.LeastLemmas.{not_below}
use Rattle.best_ways.proofs.LookupLemmas.{entries_at, lookup_entries}
use Rattle.route_laws.proofs.Tests.{and_assoc, any_both, any_const, any_map, any_same, any_stronger, any_true, any_weaker}

-- ---- lists of candidates that have the same best ways

module _ {K : Type 0} (R : K → K → Ordering) where
  -- whether a candidate for the key is below a rank
  abbrev pub is_lower : K → Rank → Candidate K → Bool
  is_lower key m c = is_candidate_to R key c && is_lt (rank_cmp c.rank m)

  abbrev pub attains_and : K → Rank → (Candidate K → Bool) → Candidate K → Bool
  attains_and key m q c = attains R key m c && q c

  -- what the candidates of a rank have is the same, if none is lower
  abbrev pub HaveSame : (Candidate K → Bool) → List (Candidate K) → List (Candidate K) → Type 0
  HaveSame q cs ds = (key : K) (m : Rank) → list_any (is_lower key m) cs ≡ false → list_any (attains_and key m q) ds ≡ list_any (attains_and key m q) cs

  abbrev pub leads_to : Hop → Candidate K → Bool
  leads_to hop c = list_any (eq_by_cmp hop_cmp hop) c.hops

  abbrev pub is_through : AreaId → Candidate K → Bool
  is_through area c = is_some_and (eq_by_cmp area_cmp area) c.area

  -- ds has all that cs has of the least rank to each key
  pub record HasBestOf (cs ds : List (Candidate K)) : Type 0 where
    keys : (key : K) → list_any (is_candidate_to R key) ds ≡ list_any (is_candidate_to R key) cs
    lower : (key : K) (m : Rank) → list_any (is_lower key m) ds ≡ list_any (is_lower key m) cs
    attained : HaveSame (λ c. true) cs ds
    hops : (hop : Hop) → HaveSame (leads_to hop) cs ds
    areas : (area : AreaId) → HaveSame (is_through area) cs ds

  have_both : (q : Candidate K → Bool) (cs ds es fs : List (Candidate K)) → HaveSame q cs ds → HaveSame q es fs → HaveSame q (cs ++ es) (ds ++ fs)
  have_both q cs ds es fs h k key m none =
      let parts = or_parts (list_any (is_lower key m) cs) (list_any (is_lower key m) es) (sym (list_any-append (is_lower key m) cs es) ∙ none) in
      any_both (attains_and key m q) cs ds es fs (h key m parts.0) (k key m parts.1)

  pub best_of_none : HasBestOf [] []
  best_of_none = record {
    keys = λ key. refl;
    lower = λ key m. refl;
    attained = λ key m none. refl;
    hops = λ hop key m none. refl;
    areas = λ area key m none. refl;
  }

  -- group after group
  pub best_of_both : (cs ds es fs : List (Candidate K)) → HasBestOf cs ds → HasBestOf es fs → HasBestOf (cs ++ es) (ds ++ fs)
  best_of_both cs ds es fs h k = record {
    keys = λ key. any_both (is_candidate_to R key) cs ds es fs (h.keys key) (k.keys key);
    lower = λ key m. any_both (is_lower key m) cs ds es fs (h.lower key m) (k.lower key m);
    attained = have_both (λ c. true) cs ds es fs h.attained k.attained;
    hops = λ hop. have_both (leads_to hop) cs ds es fs (h.hops hop) (k.hops hop);
    areas = λ area. have_both (is_through area) cs ds es fs (h.areas area) (k.areas area);
  }

  best_at : (cs ds : List (Candidate K)) → HasBestOf cs ds → (key : K) (w : Option WayValue)
      → MatchOption w (list_any (is_candidate_to R key) ds ≡ false) (IsBestWay R ds key)
      → MatchOption w (list_any (is_candidate_to R key) cs ≡ false) (IsBestWay R cs key)
  best_at cs ds r key None h = sym (r.keys key) ∙ h
  best_at cs ds r key (Some w) h =
      let none : list_any (is_lower key w.rank) cs ≡ false = sym (r.lower key w.rank) ∙ h.least in
      record {
        attained = sym (any_true (attains R key w.rank) cs) ∙ sym (r.attained key w.rank none) ∙ any_true (attains R key w.rank) ds ∙ h.attained;
        least = none;
        hops = λ hop. h.hops hop ∙ r.hops hop key w.rank none;
        areas = λ area. h.areas area ∙ r.areas area key w.rank none;
        areas_rise = h.areas_rise;
        hops_rise = h.hops_rise;
      }

  -- the best ways of ds are those of cs
  pub best_stays : (cs ds : List (Candidate K)) → HasBestOf cs ds → (ways : List (K × WayValue)) → AreBestWays R ds ways → AreBestWays R cs ways
  best_stays cs ds r ways best = record { keys_rise = best.keys_rise; at_key = λ key. best_at cs ds r key _ (best.at_key key) }

-- ---- the best ways of a group

module _ {K : Type 0} where
  -- a candidate through an area
  abbrev pub through : AreaId → Candidate K → Candidate K
  through area c = record { key = c.key; rank = c.rank; area = Some area; hops = c.hops }

  -- a way through an area, as a candidate
  abbrev pub by_way : AreaId → K × WayValue → Candidate K
  by_way area e = record { key = e.0; rank = e.1.rank; area = Some area; hops = e.1.hops }

  module _ {R : K → K → Ordering} (exact : CmpEqualImpliesEq R) where
    -- a test of the entry at a key
    any_entries : {V : Type 0} (v : V → Bool) (f : K → Option V) (ks : List K) (q : K)
        → list_any (λ e. eq_by_cmp R q e.0 && v e.1) (entries_at R f ks) ≡ is_some_and v (cond (list_any (eq_by_cmp R q) ks) (f q) None)
    any_entries v f [] q = refl
    any_entries {V} v f (k ∷ ks) q = by (eq_by_cmp R q k) (f k) refl refl (any_entries v f ks q)
      where
        same : eq_by_cmp R q k ≡ true → f k ≡ f q
        same e = ap f (sym (exact q k ((Equal-is (R q k)).0 e)))

        again : (b : Bool) (x : Option V) → (is_some_and v x || is_some_and v (cond b x None)) ≡ is_some_and v x
        again true None = refl
        again true (Some a) = twice (v a)
          where
            twice : (c : Bool) → (c || c) ≡ c
            twice true = refl
            twice false = refl
        again false None = refl
        again false (Some a) = right (v a)
          where
            right : (c : Bool) → (c || false) ≡ c
            right true = refl
            right false = refl

        nothing : (b : Bool) (x : Option V) → x ≡ None → is_some_and v (cond b x None) ≡ is_some_and v x
        nothing true x h = refl
        nothing false x h = sym (ap (is_some_and v) h)

        by : (b : Bool) (w : Option V) → eq_by_cmp R q k ≡ b → f k ≡ w
            → list_any (λ e. eq_by_cmp R q e.0 && v e.1) (entries_at R f ks) ≡ is_some_and v (cond (list_any (eq_by_cmp R q) ks) (f q) None)
            → list_any (λ e. eq_by_cmp R q e.0 && v e.1) (cons_option (option_map (λ v. (k, v)) w) (entries_at R f ks))
            ≡ is_some_and v (cond (b || list_any (eq_by_cmp R q) ks) (f q) None)
        by true None e h rest = rest ∙ nothing (list_any (eq_by_cmp R q) ks) (f q) (sym (same e) ∙ h)
        by true (Some a) e h rest =
            let here : f q ≡ Some a = sym (same e) ∙ h in
            ap (λ b. (b && v a) || list_any (λ e. eq_by_cmp R q e.0 && v e.1) (entries_at R f ks)) e ∙ ap (λ r. v a || r) rest
            ∙ ap (λ o. v a || is_some_and v (cond (list_any (eq_by_cmp R q) ks) o None)) here
            ∙ again (list_any (eq_by_cmp R q) ks) (Some a) ∙ sym (ap (is_some_and v) here)
        by false None e h rest = rest
        by false (Some a) e h rest =
            ap (λ b. (b && v a) || list_any (λ e. eq_by_cmp R q e.0 && v e.1) (entries_at R f ks)) e ∙ rest

    -- a test of the way at a key
    any_way : (v : WayValue → Bool) (cs : List (Candidate K)) (q : K)
        → list_any (λ e. eq_by_cmp R q e.0 && v e.1) (ways_of R cs) ≡ is_some_and v (lookup (eq_by_cmp R q) (ways_of R cs))
    any_way v cs q =
        any_entries v (way_to R cs) (rising R (map (λ c. c.key) cs)) q
        ∙ ap (is_some_and v) (sym (lookup_entries R exact (way_to R cs) (rising R (map (λ c. c.key) cs)) q))

    module _ (rank_total : IsTotalOrder rank_cmp) (rank_exact : CmpEqualImpliesEq rank_cmp) (cs : List (Candidate K)) (best : AreBestWays R cs (ways_of R cs)) where
      abbrev AtKey : K → Option WayValue → Type 0
      AtKey key w = MatchOption w (list_any (is_candidate_to R key) cs ≡ false) (IsBestWay R cs key)

      same_rank : (a b : Rank) → eq_by_cmp rank_cmp a b ≡ true → a ≡ b
      same_rank a b h = rank_exact a b ((Equal-is (rank_cmp a b)).0 h)

      has_key : (key : K) (w : Option WayValue) → AtKey key w → is_some_and (λ w. true) w ≡ list_any (is_candidate_to R key) cs
      has_key key None h = sym h
      has_key key (Some w) h =
          sym (any_stronger (attains R key w.rank) (is_candidate_to R key)
          (λ c t. (and_parts (is_candidate_to R key c) (eq_by_cmp rank_cmp w.rank c.rank) t).0) cs h.attained)

      -- the best way is below a rank just where a candidate is
      has_lower : (key : K) (m : Rank) (w : Option WayValue) → AtKey key w
          → is_some_and (λ w. is_lt (rank_cmp w.rank m)) w ≡ list_any (is_lower R key m) cs
      has_lower key m None h =
          sym (any_weaker (is_lower R key m) (is_candidate_to R key) (λ c n. and_left (is_candidate_to R key c) (is_lt (rank_cmp c.rank m)) n) cs h)
      has_lower key m (Some w) h = by (is_lt (rank_cmp w.rank m)) refl
        where
          by : (b : Bool) → is_lt (rank_cmp w.rank m) ≡ b → b ≡ list_any (is_lower R key m) cs
          by true e =
              sym (any_stronger (attains R key w.rank) (is_lower R key m) (λ c t.
              let both = and_parts (is_candidate_to R key c) (eq_by_cmp rank_cmp w.rank c.rank) t in
              and_from (is_candidate_to R key c) (is_lt (rank_cmp c.rank m)) both.0
              (ap (λ (r : Rank). is_lt (rank_cmp r m)) (sym (same_rank w.rank c.rank both.1)) ∙ e)) cs h.attained)
          by false e =
              sym (any_weaker (is_lower R key m) (is_lower R key w.rank) (λ c n.
              ⊎_elim (λ l. and_left (is_candidate_to R key c) (is_lt (rank_cmp c.rank m)) l)
              (λ r. and_right (is_candidate_to R key c) (is_lt (rank_cmp c.rank m)) (not_below rank_total m w.rank c.rank r e))
              (and_cases (is_candidate_to R key c) (is_lt (rank_cmp c.rank w.rank)) n)) cs h.least)

      -- no candidate has a rank that is below the best way's
      none_at : (key : K) (m : Rank) (w : WayValue) → IsBestWay R cs key w → rank_cmp m w.rank ≡ Less → list_any (attains R key m) cs ≡ false
      none_at key m w h below =
          any_weaker (attains R key m) (is_lower R key w.rank) (λ c n.
          ⊎_elim (λ l. and_left (is_candidate_to R key c) (eq_by_cmp rank_cmp m c.rank) l)
          (λ r. and_right (is_candidate_to R key c) (eq_by_cmp rank_cmp m c.rank) (false_from_ne_true (eq_by_cmp rank_cmp m c.rank)
          (λ e. true≢false (sym (ap is_lt below) ∙ ap (λ (r : Rank). is_lt (rank_cmp r w.rank)) (same_rank m c.rank e) ∙ r))))
          (and_cases (is_candidate_to R key c) (is_lt (rank_cmp c.rank w.rank)) n)) cs h.least

      -- what the best way has is what the candidates of its rank have
      has_rank : (q : Candidate K → Bool) (v : WayValue → Bool)
          → ((key : K) (w : WayValue) → IsBestWay R cs key w → v w ≡ list_any (attains_and R key w.rank q) cs)
          → (key : K) (m : Rank) → list_any (is_lower R key m) cs ≡ false → (w : Option WayValue) → AtKey key w
          → is_some_and (λ w. eq_by_cmp rank_cmp m w.rank && v w) w ≡ list_any (attains_and R key m q) cs
      has_rank q v said key m none None h =
          sym (any_weaker (attains_and R key m q) (is_candidate_to R key) (λ c n.
          and_left (attains R key m c) (q c) (and_left (is_candidate_to R key c) (eq_by_cmp rank_cmp m c.rank) n)) cs h)
      has_rank q v said key m none (Some w) h = by (rank_cmp m w.rank) refl
        where
          by : (r : Ordering) → rank_cmp m w.rank ≡ r → (is_eq r && v w) ≡ list_any (attains_and R key m q) cs
          by Less e = sym (any_weaker (attains_and R key m q) (attains R key m) (λ c n. and_left (attains R key m c) (q c) n) cs (none_at key m w h e))
          by Equal e = said key w h ∙ ap (λ (r : Rank). list_any (attains_and R key r q) cs) (sym (rank_exact m w.rank e))
          by Greater e =
              absurd (true≢false (sym (ap is_lt (rank_total.antisymm w.rank m ∙ ap ordering_reverse e)) ∙ has_lower key m (Some w) h ∙ none))

      abbrev all_of : AreaId → List (Candidate K)
      all_of area = map (through area) cs

      abbrev best_of : AreaId → List (Candidate K)
      best_of area = map (by_way area) (ways_of R cs)

      have_rank : (area : AreaId) (q : Candidate K → Bool) (v : WayValue → Bool) → ((e : K × WayValue) → q (by_way area e) ≡ v e.1)
          → ((key : K) (w : WayValue) → IsBestWay R cs key w → v w ≡ list_any (attains_and R key w.rank (λ c. q (through area c))) cs)
          → HaveSame R q (all_of area) (best_of area)
      have_rank area q v alike said key m none =
          any_map (by_way area) (attains_and R key m q) (ways_of R cs)
          ∙ any_same (λ e. attains_and R key m q (by_way area e)) (λ e. eq_by_cmp R key e.0 && (eq_by_cmp rank_cmp m e.1.rank && v e.1))
          (λ e. and_assoc (eq_by_cmp R key e.0) (eq_by_cmp rank_cmp m e.1.rank) (q (by_way area e))
          ∙ ap (λ b. eq_by_cmp R key e.0 && (eq_by_cmp rank_cmp m e.1.rank && b)) (alike e)) (ways_of R cs)
          ∙ any_way (λ w. eq_by_cmp rank_cmp m w.rank && v w) cs key
          ∙ has_rank (λ c. q (through area c)) v said key m (sym (any_map (through area) (is_lower R key m) cs) ∙ none) _ (best.at_key key)
          ∙ sym (any_map (through area) (attains_and R key m q) cs)

      -- the best ways have the best of all
      pub best_of_group : (area : AreaId) → HasBestOf R (all_of area) (best_of area)
      best_of_group area = record {
        keys = λ key.
            any_map (by_way area) (is_candidate_to R key) (ways_of R cs)
            ∙ sym (any_true (λ (e : K × WayValue). eq_by_cmp R key e.0) (ways_of R cs))
            ∙ any_way (λ w. true) cs key ∙ has_key key _ (best.at_key key)
            ∙ sym (any_map (through area) (is_candidate_to R key) cs);
        lower = λ key m.
            any_map (by_way area) (is_lower R key m) (ways_of R cs)
            ∙ any_way (λ w. is_lt (rank_cmp w.rank m)) cs key ∙ has_lower key m _ (best.at_key key)
            ∙ sym (any_map (through area) (is_lower R key m) cs);
        attained = have_rank area (λ c. true) (λ w. true) (λ e. refl) (λ key w h. sym (any_true (attains R key w.rank) cs ∙ h.attained));
        hops = λ hop. have_rank area (leads_to R hop) (λ w. list_any (eq_by_cmp hop_cmp hop) w.hops) (λ e. refl) (λ key w h. h.hops hop);
        areas = λ a. have_rank area (is_through R a) (λ w. eq_by_cmp area_cmp a area) (λ e. refl)
            (λ key w h. any_const (attains R key w.rank) (eq_by_cmp area_cmp a area) cs h.attained);
      }
