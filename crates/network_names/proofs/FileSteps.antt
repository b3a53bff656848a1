-- A names file, one name and one line after another.
use Rattle.std.proofs.Common.{◌≡◌, ℕ, ◌+◌, List, [], ◌∷◌, Result, Ok, Err, refl, ap, ◌∙◌}
use Rattle.text_words.specs.Words.{Word}
use Rattle.network_names.specs.declared.fault.NamesError.{NamesError}
use Rattle.network_names.specs.declared.fault.NamesError.TheVariants.{Fault, OutOfMemory}
use Rattle.network_names.specs.declared.names.Names.{Names}
use Rattle.network_names.specs.Fault.{FaultAt}
use Rattle.network_names.specs.Names.{Named, AreNames}
use Rattle.network_names.specs.File.{◌>>=◌, Taken, IsFaultOf, with_line, with_lines, with_name, with_names}

-- an error of one step is an error of all
pub is_fault_along : (error : NamesError) (part whole : Result (List Named) FaultAt) → ((fault : FaultAt) → part ≡ Err fault → whole ≡ Err fault)
    → IsFaultOf part error → IsFaultOf whole error
is_fault_along (Fault fault) part whole along h = along _ h
is_fault_along OutOfMemory part whole along h = tt

-- ---- the names of a line

-- names so far, and those that are left of the line
pub record NamesLeft {A : Type 0} (line address : ℕ) (before : List Named) (texts left : List Word) (names : Names A) : Type 0 where
  pub all : List Named
  pub same : with_names line before address texts ≡ with_names line all address left
  pub are : AreNames all names

name_step : (line address : ℕ) (all : List Named) (name : Word) (names : List Word)
    → with_names line all address (name ∷ names) ≡ (with_name line all address name >>= λ more. with_names line more address names)
unfolding with_names
name_step line address all name names = refl

no_names : (line address : ℕ) (all : List Named) → with_names line all address [] ≡ Ok all
unfolding with_names
no_names line address all = refl

module _ {A : Type 0} (line address : ℕ) (before : List Named) (texts left : List Word) (names : Names A) (so_far : NamesLeft line address before texts left names) where
  at_name : (name : Word) (others : List Word) → left ≡ name ∷ others
      → with_names line before address texts ≡ (with_name line so_far.all address name >>= λ more. with_names line more address others)
  at_name name others e =
      so_far.same ∙ ap (with_names line so_far.all address) e ∙ name_step line address so_far.all name others

  pub name_next : (name : Word) (others : List Word) (next : Names A) → left ≡ name ∷ others → Taken (with_name line so_far.all address name) next
      → NamesLeft line address before texts others next
  name_next name others next e taken = record {
    all = taken.all;
    same = at_name name others e
        ∙ ap (λ (given : Result (List Named) FaultAt). given >>= λ more. with_names line more address others) taken.given_is;
    are = taken.are;
  }

  pub name_fault : (name : Word) (others : List Word) (fault : FaultAt) → left ≡ name ∷ others → with_name line so_far.all address name ≡ Err fault
      → with_names line before address texts ≡ Err fault
  name_fault name others fault e h =
      at_name name others e ∙ ap (λ (given : Result (List Named) FaultAt). given >>= λ more. with_names line more address others) h

  pub names_end : left ≡ [] → Taken (with_names line before address texts) names
  names_end e = record {
    all = so_far.all;
    given_is = so_far.same ∙ ap (with_names line so_far.all address) e ∙ no_names line address so_far.all;
    are = so_far.are;
  }

-- ---- the lines of a file

-- names so far, and the lines that are left
pub record LinesLeft {A : Type 0} (texts : List (List ℕ)) (line : ℕ) (left : List (List ℕ)) (names : Names A) : Type 0 where
  pub all : List Named
  pub same : with_lines 1 [] texts ≡ with_lines line all left
  pub are : AreNames all names

line_step : (line : ℕ) (all : List Named) (text : List ℕ) (others : List (List ℕ))
    → with_lines line all (text ∷ others) ≡ (with_line line all text >>= λ more. with_lines (line + 1) more others)
unfolding with_lines
line_step line all text others = refl

no_lines : (line : ℕ) (all : List Named) → with_lines line all [] ≡ Ok all
unfolding with_lines
no_lines line all = refl

module _ {A : Type 0} (texts : List (List ℕ)) (line : ℕ) (left : List (List ℕ)) (names : Names A) (so_far : LinesLeft texts line left names) where
  at_line : (text : List ℕ) (others : List (List ℕ)) → left ≡ text ∷ others
      → with_lines 1 [] texts ≡ (with_line line so_far.all text >>= λ more. with_lines (line + 1) more others)
  at_line text others e = so_far.same ∙ ap (with_lines line so_far.all) e ∙ line_step line so_far.all text others

  pub line_next : (text : List ℕ) (others : List (List ℕ)) (next : Names A) → left ≡ text ∷ others → Taken (with_line line so_far.all text) next
      → LinesLeft texts (line + 1) others next
  line_next text others next e taken = record {
    all = taken.all;
    same = at_line text others e
        ∙ ap (λ (given : Result (List Named) FaultAt). given >>= λ more. with_lines (line + 1) more others) taken.given_is;
    are = taken.are;
  }

  pub line_fault : (text : List ℕ) (others : List (List ℕ)) (fault : FaultAt) → left ≡ text ∷ others → with_line line so_far.all text ≡ Err fault
      → with_lines 1 [] texts ≡ Err fault
  line_fault text others fault e h =
      at_line text others e ∙ ap (λ (given : Result (List Named) FaultAt). given >>= λ more. with_lines (line + 1) more others) h

  pub last_line : (text : List ℕ) (next : Names A) → left ≡ text ∷ [] → Taken (with_line line so_far.all text) next
      → Taken (with_lines 1 [] texts) next
  last_line text next e taken = record {
    all = taken.all;
    given_is = at_line text [] e
        ∙ ap (λ (given : Result (List Named) FaultAt). given >>= λ more. with_lines (line + 1) more []) taken.given_is
        ∙ no_lines (line + 1) taken.all;
    are = taken.are;
  }
