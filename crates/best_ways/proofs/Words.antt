-- The ways that are computed are the best ways.
use Rattle.std.proofs.Common.{◌≡◌, Bool, true, false, cond, List, [], ◌∷◌, map, Option, Some, None, refl, sym, ap, subst, ◌∙◌}
use Rattle.std.specs.Prelude.{◌&&◌, ◌||◌}
use Rattle.std.specs.List.{list_any, filter, filter_map, flat_map, cons_option}
use Rattle.std.specs.Option.{option_map, MatchOption}
use Rattle.std.specs.Cmp.{IsTotalOrder}
use Rattle.std.specs.Ordering.{eq_by_cmp, is_eq, is_lt, ordering_reverse}
use Rattle.std.specs.declared.cmp.Ordering.{Ordering}
use Rattle.std.specs.declared.cmp.Ordering.TheVariants.{Less, Equal, Greater}
use Rattle.std.proofs.lemmas.Cmp.{tied_itself}
use Rattle.std.proofs.lemmas.Bool.{or_parts, or_from}
use Rattle.std.proofs.lemmas.List.Folds.{list_any-append}
use Rattle.std.proofs.lemmas.Map.Lookups.{CmpEqualImpliesEq}
use Rattle.best_ways.specs.Best.{joined, of_rank, way_to, ways_of}
use Rattle.best_ways.specs.Candidate.{Candidate}
use Rattle.best_ways.specs.InWords.{attains, is_candidate_to, is_some_and, AreBestWays, IsBestWay}
use Rattle.area_graph.specs.Least.{least, lesser}
use Rattle.lsa_codec.specs.Order.{area_cmp}
use Rattle.best_ways.specs.Order.{rank_cmp}
use Rattle.next_hops.specs.Hop.{hop_cmp}
use Rattle.best_ways.specs.Values.{WayValue}
use Rattle.best_ways.specs.declared.rank.Rank.{Rank}
use Rattle.best_ways.proofs.LookupLemmas.{same_entries}
use Rattle.best_ways.proofs.LeastLemmas.{not_below}
use Rattle.best_ways.proofs.Merging.{lookup_ways, sorted_ways}
use Rattle.lsa_codec.proofs.OrderLemmas.{area_exact, area_total}
use Rattle.best_ways.proofs.RankOrders.{hop_exact, hop_total, rank_exact, rank_total}
use Rattle.best_ways.proofs.RisingLemmas.{any_rising, same_sorted, sorted_rising}

module _ {X : Type 0} where
  any_filter : (t p : X → Bool) (xs : List X) → list_any p (filter t xs) ≡ list_any (λ x. t x && p x) xs
  any_filter t p [] = refl
  any_filter t p (x ∷ xs) = by (t x) (any_filter t p xs)
    where
      by : (b : Bool) → list_any p (filter t xs) ≡ list_any (λ x. t x && p x) xs
          → list_any p (cond b (x ∷ filter t xs) (filter t xs)) ≡ ((b && p x) || list_any (λ x. t x && p x) xs)
      by true h = ap (λ r. p x || r) h
      by false h = h

  any_map : {Y : Type 0} (f : X → Y) (p : Y → Bool) (xs : List X) → list_any p (map f xs) ≡ list_any (λ x. p (f x)) xs
  any_map f p [] = refl
  any_map f p (x ∷ xs) = ap (λ r. p (f x) || r) (any_map f p xs)

  any_flat_map : {Y : Type 0} (f : X → List Y) (p : Y → Bool) (xs : List X) → list_any p (flat_map f xs) ≡ list_any (λ x. list_any p (f x)) xs
  any_flat_map f p [] = refl
  any_flat_map f p (x ∷ xs) = list_any-append p (f x) (flat_map f xs) ∙ ap (λ r. list_any p (f x) || r) (any_flat_map f p xs)

  any_filter_map : {Y : Type 0} (f : X → Option Y) (p : Y → Bool) (xs : List X) → list_any p (filter_map f xs) ≡ list_any (λ x. is_some_and p (f x)) xs
  any_filter_map f p [] = refl
  any_filter_map {Y} f p (x ∷ xs) = by (f x) (any_filter_map f p xs)
    where
      by : (o : Option Y) → list_any p (filter_map f xs) ≡ list_any (λ x. is_some_and p (f x)) xs
          → list_any p (cons_option o (filter_map f xs)) ≡ (is_some_and p o || list_any (λ x. is_some_and p (f x)) xs)
      by None h = h
      by (Some y) h = ap (λ r. p y || r) h

  any_same : (p q : X → Bool) → ((x : X) → p x ≡ q x) → (xs : List X) → list_any p xs ≡ list_any q xs
  any_same p q h [] = refl
  any_same p q h (x ∷ xs) = ap (λ b. b || list_any p xs) (h x) ∙ ap (λ r. q x || r) (any_same p q h xs)

  any_weaker : (p q : X → Bool) → ((x : X) → q x ≡ false → p x ≡ false) → (xs : List X) → list_any q xs ≡ false → list_any p xs ≡ false
  any_weaker p q h [] e = refl
  any_weaker p q h (x ∷ xs) e = let parts = or_parts (q x) (list_any q xs) e in or_from (p x) (list_any p xs) (h x parts.0) (any_weaker p q h xs parts.1)

and_assoc : (a b c : Bool) → (a && (b && c)) ≡ ((a && b) && c)
and_assoc true b c = refl
and_assoc false b c = refl

module _ {K : Type 0} {R : K → K → Ordering} (o : IsTotalOrder R) where
  -- the least is a member
  member : (x : K) (xs : List K) → list_any (eq_by_cmp R (lesser R x (least R xs))) (x ∷ xs) ≡ true
  member x [] = ap (λ r. is_eq r || false) (tied_itself o x)
  member x (y ∷ ys) = by (is_lt (R (lesser R y (least R ys)) x)) (member y ys)
    where
      or_true : (b : Bool) → (b || true) ≡ true
      or_true true = refl
      or_true false = refl

      by : (b : Bool) → list_any (eq_by_cmp R (lesser R y (least R ys))) (y ∷ ys) ≡ true
          → list_any (eq_by_cmp R (cond b (lesser R y (least R ys)) x)) (x ∷ (y ∷ ys)) ≡ true
      by true h = ap (λ r. eq_by_cmp R (lesser R y (least R ys)) x || r) h ∙ or_true (eq_by_cmp R (lesser R y (least R ys)) x)
      by false h = ap (λ r. is_eq r || list_any (eq_by_cmp R x) (y ∷ ys)) (tied_itself o x)

  lt_less : (r : Ordering) → is_lt r ≡ true → r ≡ Less
  lt_less Less h = refl
  lt_less Equal h = cc
  lt_less Greater h = cc

  -- no member is below the least
  none_lower : (x : K) (xs : List K) → list_any (λ k. is_lt (R k (lesser R x (least R xs)))) (x ∷ xs) ≡ false
  none_lower x [] = ap (λ r. is_lt r || false) (tied_itself o x)
  none_lower x (y ∷ ys) = by (is_lt (R (lesser R y (least R ys)) x)) refl (none_lower y ys)
    where
      by : (b : Bool) → is_lt (R (lesser R y (least R ys)) x) ≡ b → list_any (λ k. is_lt (R k (lesser R y (least R ys)))) (y ∷ ys) ≡ false
          → list_any (λ k. is_lt (R k (cond b (lesser R y (least R ys)) x))) (x ∷ (y ∷ ys)) ≡ false
      by true e h = or_from (is_lt (R x (lesser R y (least R ys)))) (list_any (λ k. is_lt (R k (lesser R y (least R ys)))) (y ∷ ys))
          (ap is_lt (o.antisymm x (lesser R y (least R ys)) ∙ ap ordering_reverse (lt_less _ e))) h
      by false e h =
          or_from (is_lt (R x x)) (list_any (λ k. is_lt (R k x)) (y ∷ ys)) (ap is_lt (tied_itself o x))
          (any_weaker (λ k. is_lt (R k x)) (λ k. is_lt (R k (lesser R y (least R ys))))
          (λ k no_lower. not_below o x (lesser R y (least R ys)) k no_lower e) (y ∷ ys) h)

module _ {K : Type 0} (t : Candidate K → Bool) where
  -- the members that pass, by another test
  any_own : (p : Rank → Bool) (cs : List (Candidate K)) → list_any p (map (λ c. c.rank) (filter t cs)) ≡ list_any (λ c. t c && p c.rank) cs
  any_own p cs = any_map (λ c. c.rank) p (filter t cs) ∙ any_filter t (λ c. p c.rank) cs

  any_of_rank : (m : Rank) (p : Candidate K → Bool) (cs : List (Candidate K))
      → list_any p (of_rank m (filter t cs)) ≡ list_any (λ c. (t c && eq_by_cmp rank_cmp m c.rank) && p c) cs
  any_of_rank m p cs =
      any_filter (λ c. eq_by_cmp rank_cmp m c.rank) p (filter t cs) ∙ any_filter t (λ c. eq_by_cmp rank_cmp m c.rank && p c) cs
      ∙ any_same (λ c. t c && (eq_by_cmp rank_cmp m c.rank && p c)) (λ c. (t c && eq_by_cmp rank_cmp m c.rank) && p c)
      (λ c. and_assoc (t c) (eq_by_cmp rank_cmp m c.rank) (p c)) cs

module _ {K : Type 0} {R : K → K → Ordering} (o : IsTotalOrder R) (exact : CmpEqualImpliesEq R) where
  best_way : (cs : List (Candidate K)) (key : K) (x : Rank) (xs : List Rank) → map (λ c. c.rank) (filter (is_candidate_to R key) cs) ≡ x ∷ xs
      → IsBestWay R cs key
      (joined (lesser rank_cmp x (least rank_cmp xs)) (of_rank (lesser rank_cmp x (least rank_cmp xs)) (filter (is_candidate_to R key) cs)))
  best_way cs key x xs e =
      let m = lesser rank_cmp x (least rank_cmp xs) in
      let t = is_candidate_to R key in
      record {
        attained = sym (any_own t (eq_by_cmp rank_cmp m) cs) ∙ ap (list_any (eq_by_cmp rank_cmp m)) e ∙ member rank_total x xs;
        least = sym (any_own t (λ r. is_lt (rank_cmp r m)) cs) ∙ ap (list_any (λ r. is_lt (rank_cmp r m))) e ∙ none_lower rank_total x xs;
        areas = λ area. any_rising area_total area (filter_map (λ c. c.area) (of_rank m (filter t cs)))
            ∙ any_filter_map (λ c. c.area) (eq_by_cmp area_cmp area) (of_rank m (filter t cs))
            ∙ any_of_rank t m (λ c. is_some_and (eq_by_cmp area_cmp area) c.area) cs;
        areas_rise = sorted_rising area_total (filter_map (λ c. c.area) (of_rank m (filter t cs)));
        hops = λ hop. any_rising hop_total hop (flat_map (λ c. c.hops) (of_rank m (filter t cs)))
            ∙ any_flat_map (λ c. c.hops) (eq_by_cmp hop_cmp hop) (of_rank m (filter t cs)) ∙ any_of_rank t m (λ c. list_any (eq_by_cmp hop_cmp hop) c.hops) cs;
        hops_rise = sorted_rising hop_total (flat_map (λ c. c.hops) (of_rank m (filter t cs)));
      }

  any_none : (t : Candidate K → Bool) (cs : List (Candidate K)) → map (λ c. c.rank) (filter t cs) ≡ [] → list_any t cs ≡ false
  any_none t [] h = refl
  any_none t (c ∷ cs) h = by (t c) h (any_none t cs)
    where
      by : (b : Bool) → map (λ c. c.rank) (cond b (c ∷ filter t cs) (filter t cs)) ≡ []
          → (map (λ c. c.rank) (filter t cs) ≡ [] → list_any t cs ≡ false) → (b || list_any t cs) ≡ false
      by true h rest = cc
      by false h rest = rest h

  at_key : (cs : List (Candidate K)) (key : K) → MatchOption (way_to R cs key) (list_any (is_candidate_to R key) cs ≡ false) (IsBestWay R cs key)
  at_key cs key = by (map (λ c. c.rank) (filter (is_candidate_to R key) cs)) refl
    where
      by : (rs : List Rank) → map (λ c. c.rank) (filter (is_candidate_to R key) cs) ≡ rs
          → MatchOption (option_map (λ r. joined r (of_rank r (filter (is_candidate_to R key) cs))) (least rank_cmp rs))
          (list_any (is_candidate_to R key) cs ≡ false) (IsBestWay R cs key)
      by [] e = any_none (is_candidate_to R key) cs e
      by (x ∷ xs) e = best_way cs key x xs e

  pub ways_are_best : (cs : List (Candidate K)) → AreBestWays R cs (ways_of R cs)
  ways_are_best cs = record {
    keys_rise = sorted_ways o exact cs;
    at_key = λ key.
        let P : Option WayValue → Type 0 = λ w. MatchOption w (list_any (is_candidate_to R key) cs ≡ false)
        (IsBestWay R cs key) in subst P (sym (lookup_ways o exact cs key)) (at_key cs key);
  }

  -- a rank that a candidate for the key attains is not below one that none is below
  not_lower : (cs : List (Candidate K)) (key : K) (a b : Rank) → list_any (attains R key a) cs ≡ true
      → list_any (λ c. is_candidate_to R key c && is_lt (rank_cmp c.rank b)) cs ≡ false → is_lt (rank_cmp a b) ≡ false
  not_lower cs key a b some none = by (rank_cmp a b) refl
    where
      below : rank_cmp a b ≡ Less → (c : Candidate K) → (is_candidate_to R key c && is_lt (rank_cmp c.rank b)) ≡ false → attains R key a c ≡ false
      below e c h = elim (is_candidate_to R key c) as (λ t. (t && is_lt (rank_cmp c.rank b)) ≡ false → (t && eq_by_cmp rank_cmp a c.rank) ≡ false) [
        | true ↦ λ n. tied (rank_cmp a c.rank) refl n
        | false ↦ λ n. refl
      ] h
        where
          tied : (r : Ordering) → rank_cmp a c.rank ≡ r → is_lt (rank_cmp c.rank b) ≡ false → is_eq r ≡ false
          tied Less t n = refl
          tied Equal t n = let same = sym (rank_total.congr a c.rank b t) ∙ e in let lt = sym (ap is_lt same) ∙ n in cc
          tied Greater t n = refl

      by : (r : Ordering) → rank_cmp a b ≡ r → is_lt r ≡ false
      by Less e =
          let all = any_weaker (attains R key a) (λ c. is_candidate_to R key c && is_lt (rank_cmp c.rank b)) (below e) cs none in
          let no = sym all ∙ some in cc
      by Equal e = refl
      by Greater e = refl

  -- two ways with these properties are equal
  same_way : (cs : List (Candidate K)) (key : K) (a b : WayValue) → IsBestWay R cs key a → IsBestWay R cs key b → a ≡ b
  same_way cs key a b p q =
      let ab = not_lower cs key a.rank b.rank p.attained q.least in
      let ba = not_lower cs key b.rank a.rank q.attained p.least in
      let rank : a.rank ≡ b.rank = rank_exact a.rank b.rank (tied (rank_cmp a.rank b.rank) refl ab (sym (ap is_lt (rank_total.antisymm b.rank a.rank)) ∙ ba)) in
      let areas : a.areas ≡ b.areas =
      same_sorted area_total area_exact a.areas b.areas p.areas_rise q.areas_rise
      (λ x. p.areas x ∙ ap (λ r. list_any (λ c. attains R key r c && is_some_and (eq_by_cmp area_cmp x) c.area) cs) rank ∙ sym (q.areas x)) in
      let hops : a.hops ≡ b.hops =
      same_sorted hop_total hop_exact a.hops b.hops p.hops_rise q.hops_rise
      (λ x. p.hops x ∙ ap (λ r. list_any (λ c. attains R key r c && list_any (eq_by_cmp hop_cmp x) c.hops) cs) rank ∙ sym (q.hops x)) in
      λ i. record { rank = rank i; areas = areas i; hops = hops i }
    where
      tied : (r : Ordering) → rank_cmp a.rank b.rank ≡ r → is_lt r ≡ false → is_lt (ordering_reverse r) ≡ false → rank_cmp a.rank b.rank ≡ Equal
      tied Less e x y = cc
      tied Equal e x y = e
      tied Greater e x y = cc

  -- a key with a way has a candidate
  has_candidate : (cs : List (Candidate K)) (key : K) (a : WayValue) → IsBestWay R cs key a → list_any (is_candidate_to R key) cs ≡ false → true ≡ false
  has_candidate cs key a p none =
      sym p.attained ∙ any_weaker (attains R key a.rank) (is_candidate_to R key) (λ c h. ap (λ t. t && eq_by_cmp rank_cmp a.rank c.rank) h) cs none

  same_at : (cs : List (Candidate K)) (key : K) (u v : Option WayValue) → MatchOption u (list_any (is_candidate_to R key) cs ≡ false)
      (IsBestWay R cs key) → MatchOption v (list_any (is_candidate_to R key) cs ≡ false) (IsBestWay R cs key) → u ≡ v
  same_at cs key None None p q = refl
  same_at cs key None (Some b) p q = let no = has_candidate cs key b q p in cc
  same_at cs key (Some a) None p q = let no = has_candidate cs key a p q in cc
  same_at cs key (Some a) (Some b) p q = ap Some (same_way cs key a b p q)

  pub only_ways : (cs : List (Candidate K)) (ways : List (K × WayValue)) → AreBestWays R cs ways → ways ≡ ways_of R cs
  only_ways cs ways p =
      let q = ways_are_best cs in
      same_entries o exact ways (ways_of R cs) p.keys_rise q.keys_rise (λ key. same_at cs key _ _ (p.at_key key) (q.at_key key))
