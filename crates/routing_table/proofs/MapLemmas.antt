-- For callers: maps after one entry was put into them, and what a look-up found.
use Rattle.std.proofs.Common.{◌≡◌, ◌≢◌, Bool, true, false, cond, List, Option, Some, None, refl, sym, ap, ◌∙◌, subst, true≢false}
use Rattle.std.specs.Prelude.{is_some, IsSome, IfSome}
use Rattle.std.specs.Cmp.{Equal-is}
use Rattle.std.specs.Map.{lookup}
use Rattle.std.specs.Ordering.{eq_by_cmp}
use Rattle.std.specs.declared.cmp.Ordering.{Ordering}
use Rattle.std.proofs.lemmas.Map.Lookups.{CmpEqualImpliesEq}

-- the second list of entries is the first with a value put at a key
abbrev pub Puts : {K V : Type 0} → (K → K → Ordering) → List (K × V) → List (K × V) → K → V → Type 0
Puts {K} cmp old new k v = (q : K) → lookup (eq_by_cmp cmp q) new ≡ cond (eq_by_cmp cmp k q) (Some v) (lookup (eq_by_cmp cmp q) old)

module _ {K V : Type 0} (cmp : K → K → Ordering) (exact : CmpEqualImpliesEq cmp) (old new : List (K × V)) (k : K) (v : V) (puts : Puts cmp old new k v) where
  same_key : (q : K) → eq_by_cmp cmp k q ≡ true → k ≡ q
  same_key q e = exact k q ((Equal-is (cmp k q)).0 e)

  -- what holds of all entries and of the new one
  pub put_all : (P : K → V → Type 0) → P k v → ((q : K) → IfSome (lookup (eq_by_cmp cmp q) old) (P q)) → (q : K) → IfSome (lookup (eq_by_cmp cmp q) new) (P q)
  put_all P new_one all q = by (eq_by_cmp cmp k q) refl (puts q)
    where
      by : (b : Bool) → eq_by_cmp cmp k q ≡ b → lookup (eq_by_cmp cmp q) new ≡ cond b (Some v) (lookup (eq_by_cmp cmp q) old)
          → IfSome (lookup (eq_by_cmp cmp q) new) (P q)
      by true e h = subst (λ o. IfSome o (P q)) (sym h) (subst (λ r. P r v) (same_key q e) new_one)
      by false e h = subst (λ o. IfSome o (P q)) (sym h) (all q)

  pub put_here : eq_by_cmp cmp k k ≡ true → lookup (eq_by_cmp cmp k) new ≡ Some v
  put_here self = puts k ∙ ap (λ b. cond b (Some v) (lookup (eq_by_cmp cmp k) old)) self

  pub put_other : (q : K) → q ≢ k → lookup (eq_by_cmp cmp q) new ≡ lookup (eq_by_cmp cmp q) old
  put_other q apart = by (eq_by_cmp cmp k q) refl (puts q)
    where
      by : (b : Bool) → eq_by_cmp cmp k q ≡ b → lookup (eq_by_cmp cmp q) new ≡ cond b (Some v) (lookup (eq_by_cmp cmp q) old)
          → lookup (eq_by_cmp cmp q) new ≡ lookup (eq_by_cmp cmp q) old
      by true e h = absurd (apart (sym (same_key q e)))
      by false e h = h

  -- the result of a look-up stays, where the new entry has the same as the one that was there
  pub put_reports : {X : Type 0} (report : Option V → X) → report (Some v) ≡ report (lookup (eq_by_cmp cmp k) old)
      → (q : K) → report (lookup (eq_by_cmp cmp q) new) ≡ report (lookup (eq_by_cmp cmp q) old)
  put_reports report same q = by (eq_by_cmp cmp k q) refl (puts q)
    where
      by : (b : Bool) → eq_by_cmp cmp k q ≡ b → lookup (eq_by_cmp cmp q) new ≡ cond b (Some v) (lookup (eq_by_cmp cmp q) old)
          → report (lookup (eq_by_cmp cmp q) new) ≡ report (lookup (eq_by_cmp cmp q) old)
      by true e h = ap report h ∙ same ∙ ap (λ r. report (lookup (eq_by_cmp cmp r) old)) (same_key q e)
      by false e h = ap report h

  -- a test that passed passes, where it passes at the new entry
  pub put_passes : (test : Option V → Bool) → (test (lookup (eq_by_cmp cmp k) old) ≡ true → test (Some v) ≡ true) → (q : K)
      → test (lookup (eq_by_cmp cmp q) old) ≡ true → test (lookup (eq_by_cmp cmp q) new) ≡ true
  put_passes test passes q had = by (eq_by_cmp cmp k q) refl (puts q)
    where
      by : (b : Bool) → eq_by_cmp cmp k q ≡ b → lookup (eq_by_cmp cmp q) new ≡ cond b (Some v) (lookup (eq_by_cmp cmp q) old)
          → test (lookup (eq_by_cmp cmp q) new) ≡ true
      by true e h = ap test h ∙ passes (ap (λ r. test (lookup (eq_by_cmp cmp r) old)) (same_key q e) ∙ had)
      by false e h = ap test h ∙ had

  -- a test that passes where it did not is asked at the new entry, passes there, and did not pass there before
  pub put_gains : (test : Option V → Bool) (q : K) → test (lookup (eq_by_cmp cmp q) new) ≡ true → test (lookup (eq_by_cmp cmp q) old) ≡ false
      → (q ≡ k) × (test (Some v) ≡ true) × (test (lookup (eq_by_cmp cmp k) old) ≡ false)
  put_gains test q has lacked = by (eq_by_cmp cmp k q) refl (puts q)
    where
      by : (b : Bool) → eq_by_cmp cmp k q ≡ b → lookup (eq_by_cmp cmp q) new ≡ cond b (Some v) (lookup (eq_by_cmp cmp q) old)
          → (q ≡ k) × (test (Some v) ≡ true) × (test (lookup (eq_by_cmp cmp k) old) ≡ false)
      by true e h = (sym (same_key q e), sym (ap test h) ∙ has, ap (λ r. test (lookup (eq_by_cmp cmp r) old)) (same_key q e) ∙ lacked)
      by false e h = absurd (true≢false (sym has ∙ ap test h ∙ lacked))

-- ---- what a look-up found

pub some_found : {X : Type 0} {o : Option X} {x : X} → o ≡ Some x → IsSome o
some_found h = ap is_some h

pub none_found : {X : Type 0} (o : Option X) → is_some o ≡ false → o ≡ None
none_found None h = refl
none_found (Some x) h = absurd (true≢false h)

pub if_found : {X : Type 0} (P : X → Type 0) (o : Option X) (x : X) → o ≡ Some x → IfSome o P → P x
if_found P o x is h = subst (λ p. IfSome p P) is h
