-- One word of a list after another.
use Rattle.std.proofs.Common.{◌≡◌, List, [], ◌∷◌, ◌++◌, append_assoc, Result, Ok, Err, refl, sym, ap, ◌∙◌}
use Rattle.std.proofs.lemmas.List.{append-nil}
use Rattle.text_words.specs.Words.{Word}
use Rattle.study_arguments.specs.Fault.{◌>>=◌, FaultAt}
use Rattle.study_arguments.specs.Arguments.{Read, read_at}
use Rattle.study_arguments.specs.Lists.{each}

-- what was read before goes first
abbrev pub prepend : {X : Type 0} → List X → Result (List X) FaultAt → Result (List X) FaultAt
prepend xs (Ok ys) = Ok (xs ++ ys)
prepend xs (Err fault) = Err fault

module _ {X : Type 0} (read : Read X) where
  step : (word : Word) (others : List Word) → each read (word ∷ others) ≡ (read_at read word >>= λ x. each read others >>= λ xs. Ok (x ∷ xs))
  unfolding each
  step word others = refl

  nothing : each read [] ≡ Ok []
  unfolding each
  nothing = refl

  from_nothing : (given : Result (List X) FaultAt) → given ≡ prepend [] given
  from_nothing (Ok xs) = refl
  from_nothing (Err fault) = refl

  pub each_start : (all : List Word) → each read all ≡ prepend [] (each read all)
  each_start all = from_nothing (each read all)

  module _ (before : List X) (left : List Word) (word : Word) (others : List Word) (e : left ≡ word ∷ others) where
    at_word : prepend before (each read left) ≡ prepend before (read_at read word >>= λ x. each read others >>= λ xs. Ok (x ∷ xs))
    at_word = ap (λ (those : List Word). prepend before (each read those)) e ∙ ap (prepend before) (step word others)

    regrouped : (x : X) (given : Result (List X) FaultAt) → prepend before (given >>= λ xs. Ok (x ∷ xs)) ≡ prepend (before ++ x ∷ []) given
    regrouped x (Ok xs) = ap (λ (ys : List X). Ok ys) (sym (append_assoc before (x ∷ []) xs))
    regrouped x (Err fault) = refl

    pub each_next : (x : X) → read_at read word ≡ Ok x → prepend before (each read left) ≡ prepend (before ++ x ∷ []) (each read others)
    each_next x h =
        at_word
        ∙ ap (λ (given : Result X FaultAt). prepend before (given >>= λ y. each read others >>= λ xs. Ok (y ∷ xs))) h
        ∙ regrouped x (each read others)

    pub each_fault : (fault : FaultAt) → read_at read word ≡ Err fault → prepend before (each read left) ≡ Err fault
    each_fault fault h =
        at_word ∙ ap (λ (given : Result X FaultAt). prepend before (given >>= λ y. each read others >>= λ xs. Ok (y ∷ xs))) h

  pub each_end : (before : List X) (left : List Word) → left ≡ [] → prepend before (each read left) ≡ Ok before
  each_end before left e =
      ap (λ (those : List Word). prepend before (each read those)) e ∙ ap (prepend before) nothing
      ∙ ap (λ (ys : List X). Ok ys) (append-nil before)

  pub each_last : (before : List X) (left : List Word) (word : Word) → left ≡ word ∷ [] → (x : X) → read_at read word ≡ Ok x
      → prepend before (each read left) ≡ Ok (before ++ x ∷ [])
  each_last before left word e x h = each_next before left word [] e x h ∙ each_end (before ++ x ∷ []) [] refl
