-- What marks are gained: none, one, or those of two steps.
use Rattle.std.proofs.Common.{◌≡◌, ◌≢◌, ℕ, ◌+◌, ◌<◌, Bool, false, true, List, [], ◌∷◌, ◌++◌, length, get_or, set, take, Option, None, Some, refl, sym, ap, ◌∙◌, subst}
use Rattle.std.proofs.Common.{inl, inr, ◌⊎◌, ⊎_elim}
use Rattle.std.specs.Prelude.{◌||◌}
use Rattle.std.specs.List.{Contains, list_any}
use Rattle.std.proofs.lemmas.Bool.{cases_eq}
use Rattle.std.proofs.lemmas.List.Folds.{list_any_more}
use Rattle.std.proofs.lemmas.List.{get_or-set_other, get_or-set_same, get_or_default, length-set, take_more}
use Rattle.area_graph.specs.declared.vertex.Vertex.{Vertex}
use Rattle.area_graph.specs.Topology.{Topology, row_at}
use Rattle.area_graph.proofs.MemberLemmas.{Contains-from_In, In-cases, In-from_Contains, In-left, In-list_any, In-right, list_any-In}
use Rattle.least_paths.specs.steps.Marks.{IsMarked, IsReached, IsReachedTarget, LeadsOn, Marks, leads_on}

pub marks_none : (P : ℕ → Type 0) (marks : List Bool) → ((i : ℕ) → P i → ⊥) → Marks P marks marks
marks_none P marks never = record { sized = refl; kept = λ i m. m; marked = λ i p. absurd (never i p); only = λ i m. inl m }

-- one vertex is marked
pub marks_one : (P : ℕ → Type 0) (old new : List Bool) (i : ℕ) → i < length old → new ≡ set old i true → P i → ((j : ℕ) → P j → j ≡ i)
    → Marks P old new
marks_one P old new i lt is p alone = record {
  sized = ap (λ (l : List Bool). length l) is ∙ length-set old i true;
  kept = λ j m. ⊎_elim (λ same. here j same) (λ other. there j other ∙ m) (cases_eq j i);
  marked = λ j q. here j (alone j q);
  only = λ j m. ⊎_elim
      (λ same. inr (subst (λ (n : ℕ). P n) (sym same) p))
      (λ other. inl (sym (there j other) ∙ m)) (cases_eq j i);
}
  where
    here : (j : ℕ) → j ≡ i → IsMarked new j
    here j same =
        ap (λ (l : List Bool). get_or l j false) is ∙ ap (λ (n : ℕ). get_or (set old i true) n false) same ∙ get_or-set_same old i true false lt

    there : (j : ℕ) → j ≢ i → get_or new j false ≡ get_or old j false
    there j other = ap (λ (l : List Bool). get_or l j false) is ∙ get_or-set_other old i j true false other

pub marks_both : (P Q : ℕ → Type 0) (old mid new : List Bool) → Marks P old mid → Marks Q mid new → Marks (λ i. P i ⊎ Q i) old new
marks_both P Q old mid new one two = record {
  sized = two.sized ∙ one.sized;
  kept = λ i m. two.kept i (one.kept i m);
  marked = λ i s. ⊎_elim (λ p. two.kept i (one.marked i p)) (λ q. two.marked i q) s;
  only = λ i m. ⊎_elim (λ o. ⊎_elim (λ a. inl a) (λ p. inr (inl p)) (one.only i o)) (λ q. inr (inr q)) (two.only i m);
}

pub marks_as : (P Q : ℕ → Type 0) (old new : List Bool) → ((i : ℕ) → P i → Q i) → ((i : ℕ) → Q i → P i) → Marks P old new → Marks Q old new
marks_as P Q old new there back m = record {
  sized = m.sized;
  kept = m.kept;
  marked = λ i q. m.marked i (back i q);
  only = λ i new_one. ⊎_elim (λ o. inl o) (λ p. inr (there i p)) (m.only i new_one);
}

-- ---- targets

module _ (t : Topology) (ds : List (Option ℕ)) (targets : List Vertex) where
  abbrev First : ℕ → ℕ → Type 0
  First k i = IsReachedTarget t ds (take k targets) i

  pub no_targets : (marks : List Bool) → Marks (First 0) marks marks
  no_targets marks = marks_none (First 0) marks (λ i r. In-from_Contains (take 0 targets) r.target r.one)

  module _ (k : ℕ) (target : Vertex) (more : take k targets ++ target ∷ [] ≡ take (k + 1) targets) where
    wider : (i : ℕ) → First k i → First (k + 1) i
    wider i f = record {
      target = f.target;
      one = subst (λ (l : List Vertex). Contains l f.target) more (Contains-from_In (take k targets ++ target ∷ []) f.target
          (In-left (take k targets) (target ∷ []) f.target (In-from_Contains (take k targets) f.target f.one)));
      is = f.is;
    }

    last : (i : ℕ) → IsReached t ds target i → First (k + 1) i
    last i r = record {
      target = target;
      one = subst (λ (l : List Vertex). Contains l target) more (Contains-from_In (take k targets ++ target ∷ []) target
          (In-right (take k targets) (target ∷ []) target (inl refl)));
      is = r;
    }

    narrower : (i : ℕ) → First (k + 1) i → First k i ⊎ IsReached t ds target i
    narrower i f =
        ⊎_elim
        (λ l. inl (record { target = f.target; one = Contains-from_In (take k targets) f.target l; is = f.is }))
        (λ r. ⊎_elim (λ q. inr (subst (λ (v : Vertex). IsReached t ds v i) (sym q) f.is)) (λ e. absurd e) r)
        (In-cases (take k targets) (target ∷ []) f.target
        (In-from_Contains (take k targets ++ target ∷ []) f.target (subst (λ (l : List Vertex). Contains l f.target) (sym more) f.one)))

    one_more : (old mid new : List Bool) → Marks (First k) old mid → Marks (IsReached t ds target) mid new → Marks (First (k + 1)) old new
    one_more old mid new so_far one =
        marks_as (λ i. First k i ⊎ IsReached t ds target i) (First (k + 1)) old new
        (λ i s. ⊎_elim (λ f. wider i f) (λ r. last i r) s) (λ i f. narrower i f)
        (marks_both (First k) (IsReached t ds target) old mid new so_far one)

  pub more_targets : (k : ℕ) (spare : Vertex) (old mid new : List Bool) → k < length targets → Marks (First k) old mid
      → Marks (IsReached t ds (get_or targets k spare)) mid new → Marks (First (k + 1)) old new
  more_targets k spare old mid new lt so_far one =
      one_more k (get_or targets k spare) (sym (take_more targets k spare lt)) old mid new so_far one

-- ---- edges that lead on

module _ (t : Topology) (ds : List (Option ℕ)) (marks : List Bool) (from : ℕ) where
  abbrev Here : ℕ → Type 0
  Here i = (i ≡ from) × LeadsOn t ds marks from

  module _ (d : ℕ) (at : get_or ds from None ≡ Some d) where
    pub one_leads : (new : List Bool) → from < length marks → new ≡ set marks from true → list_any (leads_on ds marks d) (row_at t from) ≡ true
        → Marks Here marks new
    one_leads new lt is any =
        let e = list_any-In (leads_on ds marks d) (row_at t from) any in
        let l : LeadsOn t ds marks from = record {
          distance = d;
          at = at;
          edge = e.0;
          out = Contains-from_In (row_at t from) e.0 e.1;
          on = e.2;
        } in
        marks_one Here marks new from lt is (refl, l) (λ j h. h.0)

-- ---- tests of items, one after another

module _ {X : Type 0} (p : X → Bool) (xs : List X) (i : ℕ) (spare : X) (lt : i < length xs) where
  pub none_so_far : list_any p (take i xs) ≡ false → p (get_or xs i spare) ≡ false → list_any p (take (i + 1) xs) ≡ false
  none_so_far none fails = list_any_more p xs i spare lt ∙ ap (λ (b : Bool). b || p (get_or xs i spare)) none ∙ fails

  pub one_passes : p (get_or xs i spare) ≡ true → list_any p xs ≡ true
  one_passes passes = In-list_any p xs (get_or xs i spare)
      (In-from_Contains xs (get_or xs i spare) (i, lt, get_or_default xs i (get_or xs i spare) spare lt)) passes
