-- The words of a line one after another.
use Rattle.std.specs.Prelude.{List, [], ◌∷◌, Result, Ok, Err}
use Rattle.edit_script.specs.Words.{Word, words}
use Rattle.study_arguments.specs.declared.position.Position.{Position}
use Rattle.study_arguments.specs.Fault.{FaultAt, missing_word, extra_word}

-- a word, and the words after it
abbrev pub At : Type 0
At = Word × List Word

abbrev pub words_at : Position → At
words_at position = (position.word.now, words position.rest.now)

-- the word after this one; where the line ends, this one is at fault
abbrev pub next : At → Result At FaultAt
next (word, []) = Err (missing_word word)
next (word, after ∷ rest) = Ok (after, rest)

-- the line ends here
abbrev pub end : At → Result (Unit {0}) FaultAt
end (word, []) = Ok tt
end (word, extra ∷ rest) = Err (extra_word extra)
