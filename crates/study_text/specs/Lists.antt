-- How lists and lines are shown, and what stands after words.
use Rattle.std.specs.Prelude.{ℕ, nat_le, ◌-◌, List, [], ◌∷◌, ◌++◌, length, take, flat_map, Option, None, Some, codes, decimal, if◌then◌else◌}

-- texts with a mark between each two
abbrev pub joined : List ℕ → List (List ℕ) → List ℕ
joined mark [] = []
joined mark (text ∷ []) = text
joined mark (text ∷ next ∷ texts) = text ++ (mark ++ joined mark (next ∷ texts))

-- texts after a word, with a mark between each two, or else what stands where there is none
abbrev pub joined_or : (none word mark : List ℕ) → List (List ℕ) → List ℕ
joined_or none word mark [] = none
joined_or none word mark (text ∷ texts) = word ++ joined mark (text ∷ texts)

-- texts joined by commas; a dash where there is none
abbrev pub listed : List (List ℕ) → List ℕ
listed texts = joined_or (codes "-") [] (codes ",") texts

-- the number of texts that are not shown after the first three
abbrev pub and_more : ℕ → List ℕ
and_more count = if nat_le count 3 then [] else codes " and " ++ decimal (count - 3) ++ codes " more"

-- after a colon the first three texts, and how many more there are; nothing where there is none
abbrev pub first_three : List (List ℕ) → List ℕ
first_three texts = joined_or [] (codes ": ") (codes ", ") (take 3 texts) ++ and_more (length texts)

-- a text after a word, if there is one
abbrev pub after_word : List ℕ → Option (List ℕ) → List ℕ
after_word word None = []
after_word word (Some text) = word ++ text

-- a line for each of some things
abbrev pub lines_of : {X : Type 0} → (X → List ℕ) → List X → List ℕ
lines_of text xs = flat_map (λ x. text x ++ codes "\n") xs
