-- How like a word another is, and which of several words is most like it.
use Rattle.std.specs.Prelude.{ℕ, ◌+◌, ◌==◌, max, List, [], ◌∷◌, reverse, Option, None, if◌then◌else◌}
use Rattle.std.specs.List.{find}
use Rattle.text_words.specs.Words.{Word}

-- the length of the common front of two words
abbrev pub common : Word → Word → ℕ
common [] other = 0
common (a ∷ word) [] = 0
common (a ∷ word) (b ∷ other) = if a == b then common word other + 1 else 0

-- the length of their common front and that of their common end, each counted by itself
unfoldable pub likeness : Word → Word → ℕ
likeness word other = common word other + common (reverse word) (reverse other)

-- how like the word that is most like it is; 0 where there is none
abbrev pub most_like : Word → List Word → ℕ
most_like word [] = 0
most_like word (other ∷ others) = max (likeness word other) (most_like word others)

-- the first that is most like a word, where it is like it at all
abbrev pub near : Word → List Word → Option Word
near word others =
    if most_like word others == 0 then None else find (λ other. likeness word other == most_like word others) others
