-- The invariant once the next candidate is settled.
use Rattle.std.proofs.Common.{◌≡◌, ◌≢◌, ℕ, ◌<◌, ◌≤◌, List, [], ◌∷◌, ◌++◌, length, get_or, Option, None, Some, IsSome, is_some, sym, ap, ◌∙◌, subst}
use Rattle.std.proofs.Common.{arith, ⊎_elim}
use Rattle.std.specs.List.{AllPairs, Contains}
use Rattle.std.proofs.lemmas.List.{length-set}
use Rattle.std.proofs.lemmas.List.Elements.{Contains-get_or, Contains-append_left, Contains-push, Contains-push_cases}
use Rattle.std.proofs.lemmas.List.Quantifiers.{all_pairs_push}
use Rattle.area_graph.specs.Topology.{Topology}
use Rattle.spf.specs.declared.queue.Candidate.{Candidate}
use Rattle.spf.proofs.Keys.{key, key_at}
use Rattle.spf.proofs.Reached.{some_of, within_some}
use Rattle.spf.proofs.Searching.{Searching, IsKeyBelow}
use Rattle.spf.proofs.Settling.{Settles, settled_at, next_there, next_at, next_key, stays, settled_cases, paths_next, bounded_next, candidates_next, pushed_key}
use Rattle.spf.proofs.Covering.{covered_next, root_next}

module _ (t : Topology) (root : ℕ) (ds : List (Option ℕ)) (order : List ℕ) (queue rest pushed : List Candidate)
    (next : Candidate) (s : Settles t root ds order queue rest pushed next) where
  -- what is settled is no farther than the next vertex
  settled_key : (i d : ℕ) → get_or (settled_at ds next) i None ≡ Some d → key_at t d i ≤ key next
  settled_key i d at =
      ⊎_elim
      (λ p. subst (λ (n : ℕ). key_at t n i ≤ key next) (sym p.1)
      (subst (λ (n : ℕ). key_at t next.distance n ≤ key next) (sym p.0) (let e = next_key t root ds order queue rest pushed next s in omega arith)))
      (λ there. s.before.below i d next there (next_there t root ds order queue rest pushed next s))
      (settled_cases t root ds order queue rest pushed next s i d at)

  below_pushed : (i d : ℕ) (c : Candidate) → get_or (settled_at ds next) i None ≡ Some d → Contains pushed c → key_at t d i ≤ key c
  below_pushed i d c at there =
      let low = settled_key i d at in
      let high = pushed_key t root ds order queue rest pushed next s c there in
      omega arith

  settled_more : (i : ℕ) → Contains (order ++ next.index ∷ []) i → IsSome (get_or (settled_at ds next) i None)
  settled_more i h =
      ⊎_elim
      (λ old. (let x = some_of (get_or ds i None) (s.before.settled i old) in ap (λ (o : Option ℕ). is_some o) (stays t root ds order queue rest pushed next s i x.0 x.1)))
      (λ same. subst (λ (n : ℕ). IsSome (get_or (settled_at ds next) n None)) same
      (ap (λ (o : Option ℕ). is_some o) (next_at t root ds order queue rest pushed next s)))
      (Contains-push_cases order next.index i h)

  listed_more : (i : ℕ) → IsSome (get_or (settled_at ds next) i None) → Contains (order ++ next.index ∷ []) i
  listed_more i h =
      let x = some_of (get_or (settled_at ds next) i None) h in
      ⊎_elim
      (λ p. subst (λ (n : ℕ). Contains (order ++ next.index ∷ []) n) (sym p.0) (Contains-push order next.index))
      (λ there. Contains-append_left order (next.index ∷ []) i (s.before.listed i (ap (λ (o : Option ℕ). is_some o) there)))
      (settled_cases t root ds order queue rest pushed next s i x.0 x.1)

  -- what was settled has the distance that it had
  as_before : (i d : ℕ) → IsSome (get_or ds i None) → get_or (settled_at ds next) i None ≡ Some d → get_or ds i None ≡ Some d
  as_before i d some at = let x = some_of (get_or ds i None) some in x.1 ∙ sym (stays t root ds order queue rest pushed next s i x.0 x.1) ∙ at

  -- a vertex that was settled stands before the next one
  before_next : (i x e : ℕ) → IsSome (get_or ds i None) → get_or (settled_at ds next) i None ≡ Some x
      → get_or (settled_at ds next) next.index None ≡ Some e → key_at t x i < key_at t e next.index
  before_next i x e some at_i at_next =
      let there : get_or ds i None ≡ Some x = as_before i x some at_i in
      let le : key_at t x i ≤ key next = s.before.below i x next there (next_there t root ds order queue rest pushed next s) in
      let small : i < length ds = within_some ds i x there in
      let size = s.before.sized in
      let few : length t.vertices ≤ 8192 = s.shape.few in
      let other : i ≢ next.index = λ same. clash (subst (λ (n : ℕ). get_or ds n None ≡ Some x) same there) in
      let within = (s.before.candidates next (next_there t root ds order queue rest pushed next s)).within in
      let now = next_at t root ds order queue rest pushed next s in
      let is : next.distance ≡ e = cc in
      let key_is = next_key t root ds order queue rest pushed next s in
      let lt : key_at t x i < key next = omega arith in
      let lt' : key_at t x i < key_at t next.distance next.index = omega arith in
      subst (λ (n : ℕ). key_at t x i < key_at t n next.index) is lt'
    where
      clash : get_or ds next.index None ≡ Some x → ⊥
      clash there = let none = s.fresh in cc

  rising_more : AllPairs (λ i j. IsKeyBelow t (settled_at ds next) i j) (order ++ next.index ∷ [])
  rising_more = all_pairs_push (λ (i j : ℕ). IsKeyBelow t (settled_at ds next) i j) order next.index
      (λ i j d lt within x e at_i at_j. s.before.rising i j d lt within x e
      (as_before (get_or order i d) x (s.before.settled (get_or order i d) (Contains-get_or order i d (omega arith))) at_i)
      (as_before (get_or order j d) e (s.before.settled (get_or order j d) (Contains-get_or order j d within)) at_j))
      (λ k d within x e at_k at_next. before_next (get_or order k d) x e (s.before.settled (get_or order k d) (Contains-get_or order k d within)) at_k at_next)

  pub Searching-settle : Searching t root (settled_at ds next) (order ++ next.index ∷ []) pushed
  Searching-settle = record {
    sized = length-set ds next.index (Some next.distance) ∙ s.before.sized;
    paths = paths_next t root ds order queue rest pushed next s;
    bounded = bounded_next t root ds order queue rest pushed next s;
    candidates = candidates_next t root ds order queue rest pushed next s;
    covered = λ e d. covered_next t root ds order queue rest pushed next s e d;
    root_covered = root_next t root ds order queue rest pushed next s;
    below = below_pushed;
    settled = settled_more;
    listed = listed_more;
    rising = rising_more;
  }
