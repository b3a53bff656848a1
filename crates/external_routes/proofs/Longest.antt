-- The route of the longest prefix that covers an address, when shorter and shorter prefixes are looked up.
use Rattle.std.proofs.Common.{◌≡◌, ℕ, ◌+◌, ◌-◌, ◌<◌, ◌≤◌, Bool, true, false, cond, List, [], ◌∷◌, length, get_or, Option, None, Some, refl, sym, ap}
use Rattle.std.proofs.Common.{subst, ◌∙◌, arith, ⊎_elim}
use Rattle.std.specs.Prelude.{bit_and}
use Rattle.std.specs.List.{All, filter, find}
use Rattle.std.specs.Ordering.{eq_by_cmp, is_lt, nat_cmp}
use Rattle.std.specs.Cmp.{nat_cmp_is}
use Rattle.std.specs.declared.cmp.Ordering.TheVariants.{Less}
use Rattle.std.proofs.lemmas.Bool.{cases_eq, eq-eqb, eqb-true, false≢true}
use Rattle.std.proofs.lemmas.Bool.Decides.{nat_tests}
use Rattle.std.proofs.lemmas.Cmp.{eq_by_cmp_equiv}
use Rattle.std.proofs.lemmas.List.Elements.{All-head, All-tail, All-cons}
use Rattle.std.proofs.lemmas.Map.Views.{tells_apart}
use Rattle.lsa_codec.specs.declared.address.Addr.{Addr}
use Rattle.lsa_codec.specs.Prefix.{Net, mask_of_len, masked}
use Rattle.area_graph.specs.Least.{least, lesser}
use Rattle.lsa_codec.specs.Order.{prefix_cmp}
use Rattle.best_ways.specs.Routes.{route_to}
use Rattle.best_ways.specs.Values.{RouteValue}
use Rattle.lsa_codec.proofs.OrderLemmas.{prefix_exact, prefix_total}
use Rattle.external_routes.specs.Choose.{covers, forward_match, longer}
use Rattle.external_routes.specs.steps.Lookup.{MarksLengths}
use Rattle.external_routes.proofs.First.{least_all}

-- what holds of all that pass a test holds of what the test keeps
All-filter_yes : {X : Type 0} (p : X → Bool) (P : X → Type 0) (xs : List X) → All (λ x. p x ≡ true → P x) xs → All P (filter p xs)
All-filter_yes p P [] all = λ k d lt. absurd (omega arith)
All-filter_yes p P (x ∷ xs) all = by (p x) refl (All-filter_yes p P xs (All-tail (λ y. p y ≡ true → P y) x xs all))
  where
    by : (b : Bool) → p x ≡ b → All P (filter p xs) → All P (cond b (x ∷ filter p xs) (filter p xs))
    by true is rest = All-cons P x (filter p xs) (All-head (λ y. p y ≡ true → P y) x xs all is) rest
    by false is rest = rest

filter_none : {X : Type 0} (p : X → Bool) (xs : List X) → All (λ x. p x ≡ false) xs → filter p xs ≡ []
filter_none p [] all = refl
filter_none p (x ∷ xs) all = ap (λ b. cond b (x ∷ filter p xs) (filter p xs)) (All-head (λ y. p y ≡ false) x xs all)
    ∙ filter_none p xs (All-tail (λ y. p y ≡ false) x xs all)

-- where none passes, none is found
pub find_none : {X : Type 0} (p : X → Bool) (xs : List X) → All (λ x. p x ≡ false) xs → find p xs ≡ None
find_none p [] all = refl
find_none p (x ∷ xs) all = ap (λ b. cond b (Some x) (find p xs)) (All-head (λ y. p y ≡ false) x xs all) ∙ find_none p xs (All-tail (λ y. p y ≡ false) x xs all)

-- where none is found, none passes
missed : {X : Type 0} (p : X → Bool) (xs : List X) → find p xs ≡ None → All (λ x. p x ≡ false) xs
missed p [] none = λ k d lt. absurd (omega arith)
missed p (x ∷ xs) none = by (p x) refl none (missed p xs)
  where
    by : (b : Bool) → p x ≡ b → cond b (Some x) (find p xs) ≡ None → (find p xs ≡ None → All (λ y. p y ≡ false) xs) → All (λ y. p y ≡ false) (x ∷ xs)
    by true is h rest = cc
    by false is h rest = All-cons (λ y. p y ≡ false) x xs is (rest h)

module _ (addr : Addr) where
  abbrev covering : RouteValue → Bool
  covering r = covers r.net addr

  -- a route for the address under a mask of length n
  abbrev fits : ℕ → RouteValue → Bool
  fits n r = eq_by_cmp prefix_cmp (masked addr n) r.net

  -- no route that covers the address is longer than n
  abbrev pub NoneLonger : ℕ → List RouteValue → Type 0
  NoneLonger n routes = All (λ r. covers r.net addr ≡ true → r.net.len ≤ n) routes

  fits_net : (n : ℕ) (r : RouteValue) → fits n r ≡ true → masked addr n ≡ r.net
  fits_net n r h = tells_apart prefix_exact (masked addr n) r.net h

  fits_covers : (n : ℕ) (r : RouteValue) → fits n r ≡ true → (covers r.net addr ≡ true) × (r.net.len ≡ n)
  fits_covers n r h =
      let same = fits_net n r h in (
        subst (λ (net : Net). covers net addr ≡ true) same
            (eq-eqb (bit_and addr.0 (mask_of_len n)) (bit_and addr.0 (mask_of_len n)) refl),
        sym (ap (λ (net : Net). net.len) same),
      )

  covers_fits : (r : RouteValue) → covers r.net addr ≡ true → fits r.net.len r ≡ true
  covers_fits r h =
      let same : masked addr r.net.len ≡ r.net = ap (λ (a : ℕ). record { addr = record { 0 = a }; len = r.net.len })
      (eqb-true (bit_and addr.0 (mask_of_len r.net.len)) r.net.addr.0 h) in
      ap (λ (net : Net). eq_by_cmp prefix_cmp net r.net) same ∙ (eq_by_cmp_equiv prefix_total).refl r.net

  not_longer : (a b : ℕ) → b ≤ a → is_lt (nat_cmp a b) ≡ false
  not_longer a b le = grind (arith, nat_tests)

  is_longer : (a b : ℕ) → a < b → is_lt (nat_cmp a b) ≡ true
  is_longer a b lt = sym (ap is_lt (nat_cmp_is a b Less lt))

  -- the first that fits is the longest that covers, where none is longer
  longest : (n : ℕ) (routes : List RouteValue) (r : RouteValue) → NoneLonger n routes
      → find (fits n) routes ≡ Some r → least longer (filter covering routes) ≡ Some r
  longest n [] r none found = cc
  longest n (y ∷ ys) r none found = by (fits n y) refl found (longest n ys r (All-tail (λ q. covers q.net addr ≡ true → q.net.len ≤ n) y ys none))
    where
      -- y fits: none of the others is longer
      ahead : y.net.len ≡ n → (m : Option RouteValue) → least longer (filter covering ys) ≡ m → lesser longer y m ≡ y
      ahead len None is = refl
      ahead len (Some b) is =
          let le : b.net.len ≤ n = least_all longer (λ q. q.net.len ≤ n) (filter covering ys) b
          (All-filter_yes covering (λ q. q.net.len ≤ n) ys (All-tail (λ q. covers q.net addr ≡ true → q.net.len ≤ n) y ys none)) (sym is) in
          ap (λ c. cond c b y) (not_longer y.net.len b.net.len (omega arith))

      -- y does not fit: it does not cover the address, or is shorter
      after : fits n y ≡ false → r.net.len ≡ n → (b : Bool) → covering y ≡ b → least longer (filter covering ys) ≡ Some r
          → least longer (cond b (y ∷ filter covering ys) (filter covering ys)) ≡ Some r
      after apart len false is rest = rest
      after apart len true is rest =
          ap (λ m. Some (lesser longer y m)) rest
          ∙ ap (λ c. Some (cond c r y)) (is_longer y.net.len r.net.len shorter)
        where
          shorter : y.net.len < r.net.len
          shorter =
              ⊎_elim
              (λ same. absurd (false≢true (sym apart ∙ subst (λ (k : ℕ). fits k y ≡ true) same (covers_fits y is))))
              (λ other. (let le : y.net.len ≤ n = All-head (λ q. covers q.net addr ≡ true → q.net.len ≤ n) y ys none is in omega arith))
              (cases_eq y.net.len n)

      by : (b : Bool) → fits n y ≡ b → cond b (Some y) (find (fits n) ys) ≡ Some r
          → (find (fits n) ys ≡ Some r → least longer (filter covering ys) ≡ Some r) → least longer (filter covering (y ∷ ys)) ≡ Some r
      by true is h rest =
          let own = fits_covers n y is in
          let same : y ≡ r = cc in
          ap (λ c. least longer (cond c (y ∷ filter covering ys) (filter covering ys))) own.0
          ∙ ap Some (ahead own.1 (least longer (filter covering ys)) refl ∙ same)
      by false is h rest = after is (found_len n ys r h) (covering y) refl (rest h)
        where
          found_len : (n : ℕ) (rs : List RouteValue) (r : RouteValue) → find (fits n) rs ≡ Some r → r.net.len ≡ n
          found_len n [] r h = cc
          found_len n (q ∷ qs) r h = step (fits n q) refl h (found_len n qs r)
            where
              step : (b : Bool) → fits n q ≡ b → cond b (Some q) (find (fits n) qs) ≡ Some r → (find (fits n) qs ≡ Some r → r.net.len ≡ n) → r.net.len ≡ n
              step true is h rest = let same : q ≡ r = cc in subst (λ (x : RouteValue). x.net.len ≡ n) same (fits_covers n q is).1
              step false is h rest = rest h

  -- ---- the steps of a loop over shorter and shorter lengths

  -- no route that covers the address has one of the lengths that are left out
  abbrev pub LeftOut : ℕ → List RouteValue → Type 0
  LeftOut shorter routes = All (λ r. covers r.net addr ≡ true → r.net.len + shorter ≤ 32) routes

  module _ (routes : List RouteValue) where
    pub left_out_none : (marks : List Bool) → MarksLengths routes marks → LeftOut 0 routes
    left_out_none marks marked k d lt cov = let s : (get_or routes k d).net.len ≤ 32 = (marked k d lt).short in omega arith

    -- no route has a length that is not marked
    pub unmarked_none : (marks : List Bool) → MarksLengths routes marks → (n : ℕ) → get_or marks n false ≡ false → None ≡ route_to routes (masked addr n)
    unmarked_none marks marked n unmarked = sym (find_none (fits n) routes (λ k d lt. by k d lt (fits n (get_or routes k d)) refl))
      where
        by : (k : ℕ) (d : RouteValue) → k < length routes → (b : Bool) → fits n (get_or routes k d) ≡ b → b ≡ false
        by k d lt true is = absurd
            (false≢true (sym unmarked ∙ subst (λ (m : ℕ). get_or marks m false ≡ true) (fits_covers n (get_or routes k d) is).1 (marked k d lt).marked))
        by k d lt false is = refl

    module _ (shorter : ℕ) (le : shorter ≤ 32) (before : LeftOut shorter routes) where
      -- no route fits at the next length
      pub left_out_missed : None ≡ route_to routes (masked addr (32 - shorter)) → LeftOut (shorter + 1) routes
      left_out_missed none k d lt cov =
          let r = get_or routes k d in
          let low : r.net.len + shorter ≤ 32 = before k d lt cov in
          ⊎_elim
          (λ same. absurd
          (false≢true (sym (missed (fits (32 - shorter)) routes (sym none) k d lt) ∙ subst (λ (n : ℕ). fits n r ≡ true) same (covers_fits r cov))))
          (λ other. omega arith)
          (cases_eq r.net.len (32 - shorter))

      -- a route fits at the next length
      pub left_out_found : (r : RouteValue) → Some r ≡ route_to routes (masked addr (32 - shorter)) → Some r ≡ forward_match routes addr
      left_out_found r found = sym (longest (32 - shorter) routes r (λ k d lt cov. let low = before k d lt cov in omega arith) (sym found))

    -- all lengths are left out
    pub left_out_all : LeftOut 33 routes → None ≡ forward_match routes addr
    left_out_all all = sym (ap (least longer) (filter_none covering routes nothing))
      where
        nothing : All (λ r. covers r.net addr ≡ false) routes
        nothing k d lt = by (covers (get_or routes k d).net addr) refl
          where
            by : (b : Bool) → covers (get_or routes k d).net addr ≡ b → b ≡ false
            by true is = absurd (let low : (get_or routes k d).net.len + 33 ≤ 32 = all k d lt is in omega arith)
            by false is = refl
