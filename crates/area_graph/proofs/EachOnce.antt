-- Lists of edges in which each occurs once.
use Rattle.std.proofs.Common.{◌≡◌, ◌≢◌, ℕ, zero, suc, ◌+◌, ◌-◌, ◌<◌, ◌≤◌, Bool, true, false, cond, ◌&&◌, eqb, List, [], ◌∷◌, ◌++◌, take, length, get_or, refl, sym, ap, ◌∙◌}
use Rattle.std.proofs.Common.{subst, arith, ◌⊎◌, inl, inr, ⊎_elim, true≢false}
use Rattle.std.specs.List.{Contains, AllPairs, list_any, fold}
use Rattle.std.proofs.lemmas.List.{take_more, take_all, get_or-take, get_or_default, length-take-le}
use Rattle.std.proofs.lemmas.List.Sums.{fold_push}
use Rattle.std.proofs.lemmas.List.Elements.{Contains-push, Contains-push_cases, Contains-append_left}
use Rattle.std.proofs.lemmas.List.Quantifiers.{all_pairs_push}
use Rattle.std.proofs.lemmas.List.Folds.{list_any_at}
use Rattle.std.proofs.lemmas.Map.Views.{Contains-from_any}
use Rattle.std.proofs.lemmas.Bool.{eqb-true, eq-eqb, and_parts, and_from, cases_eq, cases_lt}
use Rattle.indexmap.specs.IndexSet.{insert_key}
use Rattle.area_graph.specs.declared.edge.Edge.{Edge}
use Rattle.area_graph.specs.Rows.{same_edge, each_once}
use Rattle.area_graph.proofs.MemberLemmas.{In, In-from_Contains, list_any-In, In-list_any}

-- ---- `same_edge` is equality

pub edge_is : (a b : Edge) → same_edge a b ≡ true → a ≡ b
edge_is a b h =
    let parts = and_parts (eqb a.to b.to) (eqb a.cost b.cost && eqb a.link_data.0 b.link_data.0) h in
    let rest = and_parts (eqb a.cost b.cost) (eqb a.link_data.0 b.link_data.0) parts.1 in
    let to = eqb-true a.to b.to parts.0 in
    let cost = eqb-true a.cost b.cost rest.0 in
    let link_data = eqb-true a.link_data.0 b.link_data.0 rest.1 in
    λ i. record { to = to i; cost = cost i; link_data = record { 0 = link_data i } }

same_itself : (a : Edge) → same_edge a a ≡ true
same_itself a =
    and_from (eqb a.to a.to) (eqb a.cost a.cost && eqb a.link_data.0 a.link_data.0) (eq-eqb a.to a.to refl)
    (and_from (eqb a.cost a.cost) (eqb a.link_data.0 a.link_data.0) (eq-eqb a.cost a.cost refl) (eq-eqb a.link_data.0 a.link_data.0 refl))

pub edge_same : (a b : Edge) → a ≡ b → same_edge a b ≡ true
edge_same a b e = subst (λ (c : Edge). same_edge a c ≡ true) e (same_itself a)

-- ---- one more edge

-- what a list has after an edge is inserted
record Inserted (row : List Edge) (e : Edge) (new : List Edge) : Type 0 where
  kept : (f : Edge) → Contains row f → Contains new f
  here : Contains new e
  only : (f : Edge) → Contains new f → Contains row f ⊎ (f ≡ e)
  once : AllPairs (λ a b. a ≢ b) row → AllPairs (λ a b. a ≢ b) new

inserted : (row : List Edge) (e : Edge) → Inserted row e (insert_key same_edge row e)
inserted row e = by (list_any (same_edge e) row) refl
  where
    by : (b : Bool) → list_any (same_edge e) row ≡ b → Inserted row e (cond b row (row ++ e ∷ []))
    by true is = record { kept = λ f h. h; here = Contains-from_any edge_is e row is; only = λ f h. inl h; once = λ o. o }
    by false is = record {
      kept = λ f h. Contains-append_left row (e ∷ []) f h;
      here = Contains-push row e;
      only = λ f h. ⊎_elim (λ old. inl old) (λ new. inr (sym new)) (Contains-push_cases row e f h);
      once = λ o. all_pairs_push (λ a b. a ≢ b) row e o (λ k d lt same. true≢false
          (sym (list_any_at (same_edge e) row k d lt (ap (same_edge e) same ∙ same_itself e)) ∙ is));
    }

-- ---- all edges

-- what a list has after edges are inserted
record AllInserted (row es new : List Edge) : Type 0 where
  kept : (f : Edge) → Contains row f → Contains new f
  all : (f : Edge) → In es f → Contains new f
  only : (f : Edge) → Contains new f → Contains row f ⊎ In es f
  once : AllPairs (λ a b. a ≢ b) row → AllPairs (λ a b. a ≢ b) new

all_inserted : (row es : List Edge) → AllInserted row es (fold (insert_key same_edge) row es)
all_inserted row [] = record { kept = λ f h. h; all = λ f i. absurd i; only = λ f h. inl h; once = λ o. o }
all_inserted row (e ∷ es) =
    let one = inserted row e in
    let rest = all_inserted (insert_key same_edge row e) es in
    record {
      kept = λ f h. rest.kept f (one.kept f h);
      all = λ f. ⊎_elim (λ is. subst (λ (g : Edge). Contains (fold (insert_key same_edge) (insert_key same_edge row e) es) g) is
          (rest.kept e one.here)) (λ i. rest.all f i);
      only = λ f h. ⊎_elim (λ old. ⊎_elim (λ before. inl before) (λ is. inr (inl (sym is))) (one.only f old)) (λ i. inr (inr i)) (rest.only f h);
      once = λ o. rest.once (one.once o);
    }

module _ (es : List Edge) where
  pub Contains-each_once : (f : Edge) → In es f → Contains (each_once same_edge es) f
  Contains-each_once f i = (all_inserted [] es).all f i

  pub each_once-In : (f : Edge) → Contains (each_once same_edge es) f → In es f
  each_once-In f h = ⊎_elim (λ none. absurd (In-from_Contains [] f none)) (λ i. i) ((all_inserted [] es).only f h)

  pub each_once-distinct : AllPairs (λ a b. a ≢ b) (each_once same_edge es)
  each_once-distinct = (all_inserted [] es).once (λ j k d lt below. absurd (omega (arith, below)))

-- one more edge of a list
pub each_once-more : (es : List Edge) (i : ℕ) (d : Edge) → i < length es
    → each_once same_edge (take (i + 1) es) ≡ insert_key same_edge (each_once same_edge (take i es)) (get_or es i d)
each_once-more es i d lt =
    ap (each_once same_edge) (take_more es i d lt) ∙ fold_push (insert_key same_edge) [] (take i es) (get_or es i d)

-- an edge that is not among those before it, in a list whose edges before it occur once
pub distinct-more : (es : List Edge) (i : ℕ) (d : Edge) → i < length es → each_once same_edge (take i es) ≡ take i es
    → list_any (same_edge (get_or es i d)) (take i es) ≡ false
    → each_once same_edge (take (i + 1) es) ≡ take (i + 1) es
distinct-more es i d lt before new =
    each_once-more es i d lt ∙ ap (λ (row : List Edge). insert_key same_edge row (get_or es i d)) before
    ∙ ap (λ (b : Bool). cond b (take i es) (take i es ++ get_or es i d ∷ [])) new ∙ sym (take_more es i d lt)

-- ---- an edge at a place

abbrev pub no_edge : Edge
no_edge = record { to = 0; cost = 0; link_data = record { 0 = 0 } }

abbrev pub edge_at : List Edge → ℕ → Edge
edge_at es i = get_or es i no_edge

-- `==` asked the other way round
pub other_way : (e : Edge) (es : List Edge) → list_any (λ f. same_edge f e) es ≡ false → list_any (same_edge e) es ≡ false
other_way e es none = by (list_any (same_edge e) es) refl
  where
    by : (b : Bool) → list_any (same_edge e) es ≡ b → b ≡ false
    by false is = refl
    by true is =
        let f = list_any-In (same_edge e) es is in
        absurd (true≢false (sym (In-list_any (λ f. same_edge f e) es f.0 f.1 (edge_same f.0 e (sym (edge_is e f.0 f.2)))) ∙ none))

-- ---- edges to vertices with rising numbers

-- those before a place rise
abbrev pub RiseBelow : List Edge → ℕ → Type 0
RiseBelow row n = (k j : ℕ) → k < j → j < n → (edge_at row k).to < (edge_at row j).to

pub rise_more : (row : List Edge) (n : ℕ) → 0 < n → RiseBelow row n → (edge_at row (n - 1)).to < (edge_at row n).to → RiseBelow row (n + 1)
rise_more row n some before last k j lt le =
    ⊎_elim (λ early. before k j lt early)
    (λ late. (let here : n ≡ j = omega arith in
    subst (λ (m : ℕ). (edge_at row k).to < (edge_at row m).to) here
    (⊎_elim (λ same. subst (λ (m : ℕ). (edge_at row m).to < (edge_at row n).to) (sym same) last)
    (λ other. (let step = before k (n - 1) (omega arith) (omega arith) in omega arith)) (cases_eq k (n - 1)))))
    (cases_lt j n)

pub rising_once : (row : List Edge) (n : ℕ) → n ≤ length row → RiseBelow row n → each_once same_edge (take n row) ≡ take n row
rising_once row zero le rise = refl
rising_once row (suc n) le rise =
    let next : suc n ≡ n + 1 = omega arith in
    subst (λ (m : ℕ). each_once same_edge (take m row) ≡ take m row) (sym next)
    (distinct-more row n no_edge (omega arith) (rising_once row n (omega arith) (λ k j lt le. rise k j lt (omega arith))) (new (list_any (same_edge (edge_at row n)) (take n row)) refl))
  where
    new : (b : Bool) → list_any (same_edge (edge_at row n)) (take n row) ≡ b → b ≡ false
    new false is = refl
    new true is =
        let there = Contains-from_any edge_is (edge_at row n) (take n row) is in
        again there
      where
        again : Contains (take n row) (edge_at row n) → true ≡ false
        again (k, below, same) =
            let short : length (take n row) ≡ n = length-take-le n row (omega arith) in
            let lt : k < n = omega arith in
            let at : edge_at row k ≡ edge_at row n = sym (get_or_default row k (edge_at row n) no_edge (omega arith)) ∙ sym (get_or-take n row k (edge_at row n) lt) ∙ same in
            let less = rise k n lt (omega arith) in
            let level : (edge_at row k).to ≡ (edge_at row n).to = ap (λ (e : Edge). e.to) at in
            absurd (omega arith)

pub rising_whole : (row : List Edge) (n : ℕ) → length row ≤ n → RiseBelow row n → each_once same_edge row ≡ row
rising_whole row n past rise =
    let size = length row in
    subst (λ (es : List Edge). each_once same_edge es ≡ es) (take_all size row (omega arith))
    (rising_once row size (omega arith) (λ k j lt le. rise k j lt (omega arith)))
