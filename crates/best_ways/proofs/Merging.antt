-- One more candidate, and the list of ways.
use Rattle.std.proofs.Common.{◌≡◌, Bool, true, false, cond, List, [], ◌∷◌, ◌++◌, map, Option, Some, None, refl, sym, ap}
use Rattle.std.proofs.Common.{◌∙◌}
use Rattle.std.specs.List.{AllByRecursion, list_any, filter, filter_map, flat_map, cons_option}
use Rattle.std.specs.Option.{option_map}
use Rattle.std.specs.Cmp.{IsTotalOrder}
use Rattle.std.specs.Ordering.{eq_by_cmp, match_ordering, is_lt, is_eq, ordering_reverse}
use Rattle.std.specs.declared.cmp.Ordering.{Ordering}
use Rattle.std.specs.declared.cmp.Ordering.TheVariants.{Less, Equal, Greater}
use Rattle.std.proofs.lemmas.Cmp.{tied_itself, tied_back}
use Rattle.std.proofs.lemmas.List.{append-nil, map-append}
use Rattle.std.proofs.lemmas.List.Elements.{filter-append, filter_map-append}
use Rattle.std.proofs.lemmas.Bool.{or_parts}
use Rattle.std.specs.Map.{keys_of, lookup}
use Rattle.std.specs.List.Sorted.{IsStrictlySortedBy}
use Rattle.std.proofs.lemmas.Grind.{flat_map-append}
use Rattle.std.proofs.lemmas.Map.Lookups.{CmpEqualImpliesEq}
use Rattle.best_ways.specs.Best.{of_rank, joined, way_of, way_to, ways_of}
use Rattle.area_graph.specs.Least.{least, lesser}
use Rattle.best_ways.specs.steps.Merge.{add_area, fresh, merged, merge}
use Rattle.lsa_codec.specs.Order.{area_cmp}
use Rattle.best_ways.specs.Order.{rank_cmp}
use Rattle.next_hops.specs.Hop.{hop_cmp}
use Rattle.area_graph.specs.Rising.{rising}
use Rattle.best_ways.specs.Candidate.{Candidate}
use Rattle.best_ways.specs.Values.{WayValue}
use Rattle.lsa_codec.specs.declared.address.AreaId.{AreaId}
use Rattle.best_ways.specs.declared.rank.Rank.{Rank}
use Rattle.best_ways.proofs.LookupLemmas.{lookup_entries, same_entries, sorted_entries}
use Rattle.best_ways.proofs.LeastLemmas.{least_push, below_all}
use Rattle.lsa_codec.proofs.OrderLemmas.{area_exact, area_total}
use Rattle.best_ways.proofs.RankOrders.{hop_exact, hop_total, rank_total}
use Rattle.best_ways.proofs.RisingLemmas.{rising_append, sorted_rising, any_rising}

module _ {K : Type 0} where
  ranks : List (Candidate K) → List Rank
  ranks cs = map (λ c. c.rank) cs

  -- no candidate has a rank that is below all ranks
  none_of_rank : (r : Rank) (cs : List (Candidate K)) → AllByRecursion (λ k. rank_cmp r k ≡ Less) (map (λ c. c.rank) cs) → of_rank r cs ≡ []
  none_of_rank r [] a = refl
  none_of_rank r (c ∷ cs) a = ap (λ o. cond (is_eq o) (c ∷ of_rank r cs) (of_rank r cs)) a.0 ∙ none_of_rank r cs a.1

  of_rank_push : (r : Rank) (cs : List (Candidate K)) (c : Candidate K)
      → of_rank r (cs ++ c ∷ []) ≡ of_rank r cs ++ cond (eq_by_cmp rank_cmp r c.rank) (c ∷ []) []
  of_rank_push r cs c = filter-append (λ c. eq_by_cmp rank_cmp r c.rank) cs (c ∷ [])

  areas_push : (cs : List (Candidate K)) (c : Candidate K)
      → rising area_cmp (filter_map (λ c. c.area) (cs ++ c ∷ [])) ≡ add_area (rising area_cmp (filter_map (λ c. c.area) cs)) c.area
  areas_push cs c = ap (rising area_cmp) (filter_map-append (λ c. c.area) cs (c ∷ [])) ∙ by c.area
    where
      by : (a : Option AreaId) → rising area_cmp (filter_map (λ c. c.area) cs ++ cons_option a []) ≡ add_area (rising area_cmp (filter_map (λ c. c.area) cs)) a
      by None = ap (rising area_cmp) (append-nil (filter_map (λ c. c.area) cs)) ∙ refl
      by (Some a) = sym (rising_append area_total area_exact (filter_map (λ c. c.area) cs) (a ∷ []))

  hops_push : (cs : List (Candidate K)) (c : Candidate K)
      → rising hop_cmp (flat_map (λ c. c.hops) (cs ++ c ∷ [])) ≡ rising hop_cmp (rising hop_cmp (flat_map (λ c. c.hops) cs) ++ c.hops)
  hops_push cs c =
      ap (rising hop_cmp) (flat_map-append (λ c. c.hops) cs (c ∷ []) ∙ ap (λ l. flat_map (λ c. c.hops) cs ++ l) (append-nil c.hops))
      ∙ sym (rising_append hop_total hop_exact (flat_map (λ c. c.hops) cs) c.hops)

  joined_push : (r : Rank) (cs : List (Candidate K)) (c : Candidate K) → joined r (cs ++ c ∷ []) ≡ merged (joined r cs) c
  joined_push r cs c i = record { rank = r; areas = areas_push cs c i; hops = hops_push cs c i }

  of_rank_itself : (c : Candidate K) → cond (eq_by_cmp rank_cmp c.rank c.rank) (c ∷ []) [] ≡ c ∷ []
  of_rank_itself c = ap (λ o. cond (is_eq o) (c ∷ []) []) (tied_itself rank_total c.rank)

  joined_alone : (c : Candidate K) → joined c.rank (c ∷ []) ≡ fresh c
  joined_alone c i = record { rank = c.rank; areas = areas_push [] c i; hops = ap (rising hop_cmp) (append-nil c.hops) i }

  -- one more candidate, where r is how its rank compares to the least so far
  more_of_rank : (cs : List (Candidate K)) (c : Candidate K) (m : Rank)
      → (rank_cmp c.rank m ≡ Less → of_rank c.rank cs ≡ []) → (r : Ordering) → rank_cmp c.rank m ≡ r
      → joined (cond (is_lt r) c.rank m) (of_rank (cond (is_lt r) c.rank m) (cs ++ c ∷ [])) ≡ match_ordering r
      (fresh c) (merged (joined m (of_rank m cs)) c) (joined m (of_rank m cs))
  more_of_rank cs c m below Less e = ap (joined c.rank)
      (of_rank_push c.rank cs c ∙ ap (λ l. l ++ cond (eq_by_cmp rank_cmp c.rank c.rank) (c ∷ []) []) (below e) ∙ of_rank_itself c) ∙ joined_alone c
  more_of_rank cs c m below Equal e =
      ap (joined m) (of_rank_push m cs c ∙ ap (λ o. of_rank m cs ++ cond (is_eq o) (c ∷ []) []) (tied_back rank_total c.rank m e))
      ∙ joined_push m (of_rank m cs) c
  more_of_rank cs c m below Greater e =
      ap (joined m) (of_rank_push m cs c ∙ ap (λ o. of_rank m cs ++ cond (is_eq o) (c ∷ []) [])
      (rank_total.antisymm m c.rank ∙ ap ordering_reverse e) ∙ append-nil (of_rank m cs))

  -- one more candidate for a key
  pub way_push : (cs : List (Candidate K)) (c : Candidate K) → way_of (cs ++ c ∷ []) ≡ Some (merge (way_of cs) c)
  way_push [] c = ap (λ l. Some (joined c.rank l)) (of_rank_itself c) ∙ ap Some (joined_alone c)
  way_push (x ∷ xs) c =
      let m = lesser rank_cmp x.rank (least rank_cmp (map (λ c. c.rank) xs)) in
      ap (option_map (λ r. joined r (of_rank r ((x ∷ xs) ++ c ∷ []))))
      (ap (least rank_cmp) (map-append (λ c. c.rank) (x ∷ xs) (c ∷ [])) ∙ least_push rank_total (map (λ c. c.rank) (x ∷ xs)) c.rank)
      ∙ ap Some
      (more_of_rank (x ∷ xs) c m
      (λ e. let b = below_all rank_total c.rank x.rank (map (λ c. c.rank) xs) e in none_of_rank c.rank (x ∷ xs) (b.0, b.1)) (rank_cmp c.rank m) refl)

  -- entries that have at each key the way of these candidates
  abbrev pub HasWays : (K → K → Ordering) → List (Candidate K) → List (K × WayValue) → Type 0
  HasWays R cs es = (q : K) → lookup (eq_by_cmp R q) es ≡ way_to R cs q

  module _ {R : K → K → Ordering} (o : IsTotalOrder R) (exact : CmpEqualImpliesEq R) where
    none_for_key : (q : K) (cs : List (Candidate K)) → list_any (eq_by_cmp R q) (map (λ c. c.key) cs) ≡ false → filter (λ c. eq_by_cmp R q c.key) cs ≡ []
    none_for_key q [] h = refl
    none_for_key q (c ∷ cs) h =
        let parts = or_parts (eq_by_cmp R q c.key) (list_any (eq_by_cmp R q) (map (λ c. c.key) cs)) h in
        ap (λ b. cond b (c ∷ filter (λ c. eq_by_cmp R q c.key) cs) (filter (λ c. eq_by_cmp R q c.key) cs)) parts.0 ∙ none_for_key q cs parts.1

    only_keys : (q : K) (cs : List (Candidate K)) (b : Bool) → list_any (eq_by_cmp R q) (map (λ c. c.key) cs) ≡ b → cond b (way_to R cs q) None ≡ way_to R cs q
    only_keys q cs true h = refl
    only_keys q cs false h = sym (ap way_of (none_for_key q cs h))

    -- what the ways have at a key
    pub lookup_ways : (cs : List (Candidate K)) (q : K) → lookup (eq_by_cmp R q) (ways_of R cs) ≡ way_to R cs q
    lookup_ways cs q =
        lookup_entries R exact (way_to R cs) (rising R (map (λ c. c.key) cs)) q
        ∙ ap (λ b. cond b (way_to R cs q) None) (any_rising o q (map (λ c. c.key) cs)) ∙ only_keys q cs _ refl

    -- the keys of the ways are in strict order
    pub sorted_ways : (cs : List (Candidate K)) → IsStrictlySortedBy R (keys_of (ways_of R cs))
    sorted_ways cs = sorted_entries R (way_to R cs) (rising R (map (λ c. c.key) cs)) (sorted_rising o (map (λ c. c.key) cs))

    -- the entries in order are the ways
    pub all_ways : (es : List (K × WayValue)) (cs : List (Candidate K)) → IsStrictlySortedBy R (keys_of es) → HasWays R cs es → es ≡ ways_of R cs
    all_ways es cs up h = same_entries o exact es (ways_of R cs) up (sorted_ways cs) (λ q. h q ∙ sym (lookup_ways cs q))
