-- The set of the keys that were read, beside the LSAs.
use Rattle.std.proofs.Common.{◌≡◌, ℕ, Bool, true, false, List, [], ◌∷◌, ◌++◌, refl, sym, ap, ◌∙◌, arith, cond, not, ◌||◌, ◌&&◌, eqb, ltb, inl, inr}
use Rattle.std.proofs.Common.{is_eq, Less, Greater}
use Rattle.std.proofs.lemmas.Bool.{cases_eq, eq-eqb, ne_eqb, le-ltb}
use Rattle.std.specs.Ordering.{nat_cmp, ordering_then}
use Rattle.std.specs.declared.cmp.Ordering.{Ordering}
use Rattle.std.specs.BTreeMap.{is_at}
use Rattle.std.specs.BTreeSet.{BTreeSet, contains, Updates, IsEmpty}
use Rattle.std.specs.List.{list_any}
use Rattle.std.proofs.lemmas.List.Folds.{list_any-append}
use Rattle.lsa_codec.specs.declared.key.Key.{Key}
use Rattle.lsa_codec.specs.Key.{key_of}
use Rattle.lsa_codec.specs.contracts.key.KeyOrd.TheImpl as key_ord
use Rattle.lsdb.specs.Lists.{same_key, has_key}
use Rattle.lsdb.specs.Loading.{has_key_of}

abbrev pub key_cmp : Key → Key → Ordering
key_cmp = (key_ord.ghosts).cmp

-- the set holds the keys of the LSAs, and no others
abbrev pub HasKeys : BTreeSet Key → List (List ℕ) → Type 0
HasKeys keys lsas = (key : Key) → contains key_cmp keys key ≡ list_any (has_key key) lsas

-- a comparison of two numbers, and then of others, that finds no difference
equal_then : (x y : ℕ) (r : Ordering) → is_eq (ordering_then (nat_cmp x y) r) ≡ (eqb x y && is_eq r)
equal_then x y r =
    elim (cases_eq x y) [
      | inl e ↦ rw (le-ltb x y (omega arith), eq-eqb x y e) refl
      | inr ne ↦ rw (ne_eqb x y ne) (by_test (ltb x y))
    ] where
      by_test : (b : Bool) → is_eq (ordering_then (cond b Less Greater) r) ≡ false
      by_test true = refl
      by_test false = refl

equal_last : (x y : ℕ) → is_eq (nat_cmp x y) ≡ eqb x y
equal_last x y =
    elim (cases_eq x y) [
      | inl e ↦ rw (le-ltb x y (omega arith), eq-eqb x y e) refl
      | inr ne ↦ rw (ne_eqb x y ne) (by_test (ltb x y))
    ] where
      by_test : (b : Bool) → is_eq (cond b Less Greater) ≡ false
      by_test true = refl
      by_test false = refl

pub is_at_key : (a b : Key) → is_at (key_cmp a) b ≡ same_key a b
is_at_key a b =
    equal_then a.kind b.kind _ ∙ ap (λ t. eqb a.kind b.kind && t) (equal_then a.id.0 b.id.0 _ ∙ ap (λ t. eqb a.id.0 b.id.0 && t) (equal_last a.adv.0 b.adv.0))

pub no_keys : (keys : BTreeSet Key) → IsEmpty keys → HasKeys keys []
no_keys keys e key = ap (λ (ks : List Key). list_any (is_at (key_cmp key)) ks) e

-- the set shows whether the key of an LSA was seen
pub inserted : (keys : BTreeSet Key) (seen : List (List ℕ)) (lsa : List ℕ) (key : Key) (added : Bool)
    → HasKeys keys seen → key ≡ key_of lsa → added ≡ not (contains key_cmp keys key)
    → added ≡ not (has_key_of seen lsa)
inserted keys seen lsa key added has e is = is ∙ ap not (has key ∙ ap (λ (k : Key). list_any (has_key k) seen) e)

added_or : (a b : Bool) → cond a true b ≡ (b || (a || false))
added_or true true = refl
added_or true false = refl
added_or false true = refl
added_or false false = refl

pub keys_push : (keys new : BTreeSet Key) (seen : List (List ℕ)) (lsa : List ℕ) (key : Key)
    → HasKeys keys seen → key ≡ key_of lsa → Updates key_cmp keys new key true
    → HasKeys new (seen ++ lsa ∷ [])
keys_push keys new seen lsa key has e updates q =
    updates.0 q ∙ ap (λ b. cond b true (contains key_cmp keys q)) (is_at_key key q ∙ ap (λ (k : Key). same_key k q) e)
    ∙ ap (λ b. cond (has_key q lsa) true b) (has q) ∙ added_or (has_key q lsa) (list_any (has_key q) seen)
    ∙ sym (list_any-append (has_key q) seen (lsa ∷ []))
