-- Lists that grow item by item.
use Rattle.std.proofs.Common.{◌≡◌, ℕ, ◌+◌, ◌<◌, sym, ◌∙◌, ap, subst, List, [], ◌∷◌, ◌++◌, append_assoc, length, get_or, take, map}
use Rattle.std.specs.Prelude.{All}
use Rattle.std.proofs.lemmas.List.{map-append, take_more}
use Rattle.std.proofs.lemmas.List.Elements.{All-append, All-cons, All-nil}

-- one more item of those that were looked at
pub item_more : {X : Type 0} (xs : List X) (i : ℕ) (x : X) → i < length xs → x ≡ get_or xs i x → take (i + 1) xs ≡ take i xs ++ x ∷ []
item_more {X} xs i x l e = take_more xs i x l ∙ ap (λ (z : X). take i xs ++ z ∷ []) (sym e)

pub map_next : {X Y : Type 0} (f : X → Y) (xs : List X) (i : ℕ) (x : X) (start old new : List Y) → i < length xs → x ≡ get_or xs i x
    → new ≡ old ++ f x ∷ [] → old ≡ start ++ map f (take i xs) → new ≡ start ++ map f (take (i + 1) xs)
map_next {X} {Y} f xs i x start old new l e pushed so_far =
    let more : map f (take (i + 1) xs) ≡ map f (take i xs) ++ f x ∷ [] =
    ap (map f) (item_more xs i x l e) ∙ map-append f (take i xs) (x ∷ []) in
    pushed ∙ ap (λ (ys : List Y). ys ++ f x ∷ []) so_far ∙ append_assoc start (map f (take i xs)) (f x ∷ [])
    ∙ ap (λ (ys : List Y). start ++ ys) (sym more)

pub all_next : {X : Type 0} (P : X → Type 0) (xs : List X) (i : ℕ) (x : X) → i < length xs → x ≡ get_or xs i x
    → P x → All P (take i xs) → All P (take (i + 1) xs)
all_next {X} P xs i x l e p so_far =
    let Q : List X → Type 0 = λ ys. All P ys in
    subst Q (sym (item_more xs i x l e)) (All-append P (take i xs) (x ∷ []) so_far (All-cons P x [] p (All-nil P)))
