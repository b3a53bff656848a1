-- Parts that are joined are split again, and what parts of a text lack.
use Rattle.std.proofs.Common.{◌≡◌, ℕ, ◌<◌, Bool, true, false, cond, List, [], ◌∷◌, ◌++◌, length, refl, ap, ◌∙◌, arith}
use Rattle.std.specs.Prelude.{not, ◌&&◌}
use Rattle.std.specs.List.{slice_split, onto_first, join_with_byte, All, AllByRecursion}
use Rattle.std.proofs.lemmas.Bool.{and_parts, not-true}
use Rattle.std.proofs.lemmas.List.Elements.{All-nil, All-cons, All-head, All-tail, All-from_recursion}
use Rattle.std.proofs.lemmas.List.Splits.{slice_split_none, slice_split_at, slice_split-cons_yes, length-slice_split}

-- no byte of a part passes the test
abbrev pub Lacks : (ℕ → Bool) → List ℕ → Type 0
Lacks p part = All (λ b. p b ≡ false) part

pub split_joined : (p : ℕ → Bool) (c : ℕ) → p c ≡ true → (part : List ℕ) (parts : List (List ℕ)) → AllByRecursion (Lacks p) (part ∷ parts)
    → slice_split p (join_with_byte c (part ∷ parts)) ≡ part ∷ parts
split_joined p c pass part [] h = slice_split_none p part h.0
split_joined p c pass part (next ∷ parts) h =
    slice_split_at p part c (join_with_byte c (next ∷ parts)) h.0 pass
    ∙ ap (λ (ps : List (List ℕ)). part ∷ ps) (split_joined p c pass next parts h.1)

one_more : (b : Bool) (x : ℕ) (parts others : List (List ℕ)) → 0 < length parts
    → cond b ([] ∷ (parts ++ others)) (onto_first x (parts ++ others)) ≡ cond b ([] ∷ parts) (onto_first x parts) ++ others
one_more true x parts others h = refl
one_more false x [] others h = absurd (omega arith)
one_more false x (part ∷ parts) others h = refl

-- the parts before a byte that passes, and those after it
pub split_twice : (p : ℕ → Bool) (front : List ℕ) (y : ℕ) (ys : List ℕ) → p y ≡ true
    → slice_split p (front ++ y ∷ ys) ≡ slice_split p front ++ slice_split p ys
split_twice p [] y ys h = slice_split-cons_yes p y ys h
split_twice p (x ∷ xs) y ys h =
    ap (λ (parts : List (List ℕ)). cond (p x) ([] ∷ parts) (onto_first x parts)) (split_twice p xs y ys h)
    ∙ one_more (p x) x (slice_split p xs) (slice_split p ys) (omega (arith, length-slice_split p xs))

more_lack : (p : ℕ → Bool) (b : Bool) (x : ℕ) (parts : List (List ℕ)) → p x ≡ b → All (Lacks p) parts
    → All (Lacks p) (cond b ([] ∷ parts) (onto_first x parts))
more_lack p true x parts e h = All-cons (Lacks p) [] parts (All-nil (λ byte. p byte ≡ false)) h
more_lack p false x [] e h =
    All-cons (Lacks p) (x ∷ []) [] (All-cons (λ byte. p byte ≡ false) x [] e (All-nil (λ byte. p byte ≡ false))) (All-nil (Lacks p))
more_lack p false x (part ∷ parts) e h =
    All-cons (Lacks p) (x ∷ part) parts (All-cons (λ byte. p byte ≡ false) x part e (All-head (Lacks p) part parts h))
    (All-tail (Lacks p) part parts h)

pub parts_lack : (p : ℕ → Bool) (xs : List ℕ) → All (Lacks p) (slice_split p xs)
parts_lack p [] = All-cons (Lacks p) [] [] (All-nil (λ byte. p byte ≡ false)) (All-nil (Lacks p))
parts_lack p (x ∷ xs) = more_lack p (p x) x (slice_split p xs) refl (parts_lack p xs)

-- ---- parts that are written out

-- a test that computes on them
abbrev pub has_none : (ℕ → Bool) → List ℕ → Bool
has_none p [] = true
has_none p (byte ∷ part) = not (p byte) && has_none p part

lacks_each : (p : ℕ → Bool) (part : List ℕ) → has_none p part ≡ true → AllByRecursion (λ byte. p byte ≡ false) part
lacks_each p [] h = tt
lacks_each p (byte ∷ part) h =
    let both = and_parts (not (p byte)) (has_none p part) h in
    (not-true (p byte) both.0, lacks_each p part both.1)

pub Lacks-literal : (p : ℕ → Bool) (part : List ℕ) → has_none p part ≡ true → Lacks p part
Lacks-literal p part h = All-from_recursion (λ byte. p byte ≡ false) part (lacks_each p part h)
