-- A given number of words after a command word, each read as what it is to be.
use Rattle.std.specs.Prelude.{List, [], ◌∷◌, Option, Some, None, Result, Ok, Err}
use Rattle.text_words.specs.Words.{Word}
use Rattle.study_arguments.specs.declared.fault.FaultKind.{FaultKind}
use Rattle.study_arguments.specs.Fault.{◌>>=◌, FaultAt, at_word, missing_word, extra_word}
use Rattle.study_arguments.specs.Positions.{At, end, next}

-- how a word is read
abbrev pub Read : Type 0 → Type 0
Read A = Word → Result A FaultKind

abbrev pub read_at : {A : Type 0} → Read A → Word → Result A FaultAt
read_at read word = at_word word (read word)

-- the next word, and where the line goes on
unfoldable pub next_as : {A : Type 0} → Read A → At → Result (A × At) FaultAt
next_as read line = do
  after ← next line
  value ← read_at read after.0
  Ok (value, after)

-- the first of these arguments, and the others; where there is none, the command word is at fault
abbrev pub argument : Word → List Word → Result At FaultAt
argument word [] = Err (missing_word word)
argument word (first ∷ rest) = Ok (first, rest)

abbrev pub three_words : Word → List Word → Result (At × At × At) FaultAt
three_words word arguments = do
  first ← argument word arguments
  second ← argument word first.1
  third ← argument word second.1
  Ok (first, second, third)

-- ---- arguments: first their number is tested, then each from left to right

unfoldable pub one_of : {A : Type 0} → Read A → At → Result A FaultAt
one_of read line = do
  first ← argument line.0 line.1
  _ ← end first
  read_at read first.0

unfoldable pub two_of : {A B : Type 0} → Read A → Read B → At → Result (A × B) FaultAt
two_of read_a read_b line = do
  first ← argument line.0 line.1
  second ← argument line.0 first.1
  _ ← end second
  a ← read_at read_a first.0
  b ← read_at read_b second.0
  Ok (a, b)

unfoldable pub three_of : {A B C : Type 0} → Read A → Read B → Read C → At → Result (A × B × C) FaultAt
three_of read_a read_b read_c line = do
  word ← three_words line.0 line.1
  _ ← end word.2
  a ← read_at read_a word.0.0
  b ← read_at read_b word.1.0
  c ← read_at read_c word.2.0
  Ok (a, b, c)

unfoldable pub four_of : {A B C D : Type 0} → Read A → Read B → Read C → Read D → At → Result (A × B × C × D) FaultAt
four_of read_a read_b read_c read_d line = do
  word ← three_words line.0 line.1
  fourth ← argument line.0 word.2.1
  _ ← end fourth
  a ← read_at read_a word.0.0
  b ← read_at read_b word.1.0
  c ← read_at read_c word.2.0
  d ← read_at read_d fourth.0
  Ok (a, b, c, d)

unfoldable pub six_of : {A B C D E F : Type 0} → Read A → Read B → Read C → Read D → Read E → Read F → At → Result (A × B × C × D × E × F) FaultAt
six_of read_a read_b read_c read_d read_e read_f line = do
  word ← three_words line.0 line.1
  more ← three_words line.0 word.2.1
  _ ← end more.2
  a ← read_at read_a word.0.0
  b ← read_at read_b word.1.0
  c ← read_at read_c word.2.0
  d ← read_at read_d more.0.0
  e ← read_at read_e more.1.0
  f ← read_at read_f more.2.0
  Ok (a, b, c, d, e, f)

-- ---- an argument that may be left out

abbrev pub optional_word : At → Result (Option Word) FaultAt
optional_word (word, []) = Ok None
optional_word (word, first ∷ []) = Ok (Some first)
optional_word (word, first ∷ extra ∷ rest) = Err (extra_word extra)

abbrev pub if_given : {A : Type 0} → Read A → Option Word → Result (Option A) FaultAt
if_given read None = Ok None
if_given read (Some word) = read_at read word >>= λ value. Ok (Some value)

-- no argument, or one
unfoldable pub optional_of : {A : Type 0} → Read A → At → Result (Option A) FaultAt
optional_of read line = optional_word line >>= if_given read

-- one argument, or two
unfoldable pub one_or_two_of : {A B : Type 0} → Read A → Read B → At → Result (A × Option B) FaultAt
one_or_two_of read_a read_b line = do
  first ← argument line.0 line.1
  second ← optional_word first
  a ← read_at read_a first.0
  b ← if_given read_b second
  Ok (a, b)

-- two arguments, or three
unfoldable pub two_or_three_of : {A B C : Type 0} → Read A → Read B → Read C → At → Result (A × B × Option C) FaultAt
two_or_three_of read_a read_b read_c line = do
  first ← argument line.0 line.1
  second ← argument line.0 first.1
  third ← optional_word second
  a ← read_at read_a first.0
  b ← read_at read_b second.0
  c ← if_given read_c third
  Ok (a, b, c)

-- three arguments, or four
unfoldable pub three_or_four_of : {A B C D : Type 0} → Read A → Read B → Read C → Read D → At → Result (A × B × C × Option D) FaultAt
three_or_four_of read_a read_b read_c read_d line = do
  word ← three_words line.0 line.1
  fourth ← optional_word word.2
  a ← read_at read_a word.0.0
  b ← read_at read_b word.1.0
  c ← read_at read_c word.2.0
  d ← if_given read_d fourth
  Ok (a, b, c, d)
