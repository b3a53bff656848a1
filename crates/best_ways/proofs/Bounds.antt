-- What holds of the ranks of all candidates holds of those of all ways.
use Rattle.std.proofs.Common.{◌≡◌, ℕ, ◌+◌, ◌<◌, ◌^◌, Bool, true, false, cond, List, [], ◌∷◌, ◌++◌, map, take, get_or, length, Option, Some, None, IfSome}
use Rattle.std.proofs.Common.{sym, ap, subst, ◌∙◌, arith}
use Rattle.std.proofs.lemmas.List.{take_more}
use Rattle.std.specs.List.{All, filter, filter_map, find, flat_map, cons_option}
use Rattle.std.specs.Option.{option_map}
use Rattle.std.specs.Ordering.{eq_by_cmp, is_lt}
use Rattle.std.specs.declared.cmp.Ordering.{Ordering}
use Rattle.std.proofs.lemmas.List.Elements.{All-append, All-cons, All-filter, All-head, All-map, All-nil, All-tail}
use Rattle.area_graph.specs.Least.{least, lesser}
use Rattle.best_ways.specs.Best.{joined, of_rank, way_of, way_to, ways_of}
use Rattle.best_ways.specs.Candidate.{Candidate}
use Rattle.lsa_codec.specs.Order.{prefix_cmp}
use Rattle.best_ways.specs.Order.{rank_cmp}
use Rattle.best_ways.specs.Routes.{route_of, routes_of}
use Rattle.best_ways.specs.Values.{RouteValue, RoutesBelow, WayValue}
use Rattle.best_ways.specs.declared.rank.Rank.{Rank}
use Rattle.lsa_codec.specs.Prefix.{Net}

module _ {K : Type 0} (P : WayValue → Type 0) where
  -- the keys that have a way, each with it
  abbrev with_ways : (K → Option WayValue) → List K → List (K × WayValue)
  with_ways f ks = filter_map (λ k. option_map (λ w. (k, w)) (f k)) ks

  entries_have : (f : K → Option WayValue) → ((k : K) → IfSome (f k) P) → (ks : List K) → All (λ (e : K × WayValue). P e.1) (with_ways f ks)
  entries_have f h [] = All-nil (λ (e : K × WayValue). P e.1)
  entries_have f h (k ∷ ks) = by (f k) (h k) (entries_have f h ks)
    where
      by : (o : Option WayValue) → IfSome o P → All (λ (e : K × WayValue). P e.1) (with_ways f ks)
          → All (λ (e : K × WayValue). P e.1) (cons_option (option_map (λ w. (k, w)) o) (with_ways f ks))
      by None p rest = rest
      by (Some w) p rest = All-cons (λ (e : K × WayValue). P e.1) (k, w) (with_ways f ks) p rest

  -- what holds of candidates that are joined
  pub ways_hold : ((rank : Rank) (cs : List (Candidate K)) → P (joined rank cs)) → (R : K → K → Ordering) (cs : List (Candidate K))
      → All (λ (e : K × WayValue). P e.1) (ways_of R cs)
  ways_hold h R cs = entries_have (way_to R cs) (λ k. let own = filter (λ c. eq_by_cmp R k c.key) cs in by own (least rank_cmp (map (λ c. c.rank) own))) _
    where
      by : (own : List (Candidate K)) (o : Option Rank) → IfSome (option_map (λ r. joined r (of_rank r own)) o) P
      by own None = tt
      by own (Some r) = h r (of_rank r own)

module _ (P : Rank → Type 0) where
  least_has : (rs : List Rank) → All P rs → IfSome (least rank_cmp rs) P
  least_has [] a = tt
  least_has (r ∷ rs) a = by (least rank_cmp rs) (least_has rs (All-tail P r rs a))
    where
      chosen : (b : Bool) (s : Rank) → P s → P (cond b s r)
      chosen true s h = h
      chosen false s h = All-head P r rs a

      by : (o : Option Rank) → IfSome o P → P (lesser rank_cmp r o)
      by None h = All-head P r rs a
      by (Some s) h = chosen (is_lt (rank_cmp s r)) s h

  module _ {K : Type 0} where
    way_has : (cs : List (Candidate K)) → All (λ c. P c.rank) cs → IfSome (way_of cs) (λ w. P w.rank)
    way_has cs a = by (least rank_cmp (map (λ c. c.rank) cs)) (least_has (map (λ c. c.rank) cs) (All-map P (λ c. c.rank) cs a))
      where
        by : (o : Option Rank) → IfSome o P → IfSome (option_map (λ r. joined r (of_rank r cs)) o) (λ w. P w.rank)
        by None h = tt
        by (Some r) h = h

    pub ways_have : (R : K → K → Ordering) (cs : List (Candidate K)) → All (λ c. P c.rank) cs → All (λ (e : K × WayValue). P e.1.rank) (ways_of R cs)
    ways_have R cs a =
        entries_have (λ w. P w.rank) (way_to R cs)
        (λ k. way_has (filter (λ c. eq_by_cmp R k c.key) cs) (All-filter (λ c. eq_by_cmp R k c.key) (λ c. P c.rank) cs a)) _

pub routes_below : (bound : ℕ) (cs : List (Candidate Net)) → All (λ c. c.rank.cost < bound) cs → RoutesBelow bound (routes_of cs)
routes_below bound cs a = All-map (λ r. r.cost < bound) route_of (ways_of prefix_cmp cs) (ways_have (λ r. r.cost < bound) prefix_cmp cs a)

-- a greater bound
pub wider_routes : (routes : List RouteValue) → RoutesBelow (2 ^ 33) routes → RoutesBelow (2 ^ 34) routes
wider_routes routes a k d l = let h = a k d l in omega arith

-- what holds of each of several lists
pub All-flat_map : {X Y : Type 0} (P : Y → Type 0) (Q : X → Type 0) (f : X → List Y)
    → ((x : X) → Q x → All P (f x)) → (xs : List X) → All Q xs → All P (flat_map f xs)
All-flat_map P Q f h [] a = All-nil P
All-flat_map P Q f h (x ∷ xs) a = All-append P (f x) (flat_map f xs) (h x (All-head Q x xs a)) (All-flat_map P Q f h xs (All-tail Q x xs a))

-- what holds of those taken so far, and of the next
pub All-taken : {X : Type 0} (P : X → Type 0) (xs : List X) (i : ℕ) (x : X) → i < length xs
    → x ≡ get_or xs i x → P x → All P (take i xs) → All P (take (i + 1) xs)
All-taken P xs i x l item p a =
    subst (λ ys. All P ys) (ap (λ y. take i xs ++ y ∷ []) item ∙ sym (take_more xs i x l)) (All-append P (take i xs) (x ∷ []) a (All-cons P x [] p (All-nil P)))

-- what holds of all holds of the one that is found
pub found_has : {X : Type 0} (P : X → Type 0) (p : X → Bool) (xs : List X) → All P xs → IfSome (find p xs) P
found_has P p [] a = tt
found_has P p (x ∷ xs) a = by (p x) (found_has P p xs (All-tail P x xs a))
  where
    by : (b : Bool) → IfSome (find p xs) P → IfSome (cond b (Some x) (find p xs)) P
    by true rest = All-head P x xs a
    by false rest = rest

-- what holds of each member that there is
pub All-filter_map : {X Y : Type 0} (P : Y → Type 0) (f : X → Option Y) → ((x : X) → IfSome (f x) P) → (xs : List X) → All P (filter_map f xs)
All-filter_map P f h [] = All-nil P
All-filter_map {X} {Y} P f h (x ∷ xs) = by (f x) (h x) (All-filter_map P f h xs)
  where
    by : (o : Option Y) → IfSome o P → All P (filter_map f xs) → All P (cons_option o (filter_map f xs))
    by None p rest = rest
    by (Some y) p rest = All-cons P y (filter_map f xs) p rest
