-- Lines as they are read from a terminal, and what is written of them.
use Rattle.std.specs.Prelude.{◌≡◌, ℕ, ◌<◌, ◌≤◌, ◌==◌, Bool, true, false, List, [], ◌∷◌, ◌++◌, All, Option, Result, Err, length}
use Rattle.std.specs.Io.KnownBytes.{Appends, Consumes, IsAtEnd}
use Rattle.host_io.specs.WholeText.{AppendsPrefix}
use Rattle.study_session.specs.Studies.{Study}
use Rattle.whole_study.specs.Calls.{most}
use Rattle.whole_study.specs.Typed.{Awaits, Known, prompts_for, typed_lines}
use Rattle.whole_study.specs.steps.Carrying.{CarriesOut, WritesPart, Written}
use Rattle.whole_study.specs.declared.fault.RunFault.{RunFault}
use Rattle.whole_study.specs.declared.fault.RunFault.TheVariants.{Dump, Baseline, Names, Read, Write, TooLarge, OutOfMemory}
use Rattle.whole_study.specs.declared.summary.Summary.{Summary}
use Rattle.whole_study.specs.declared.typing.TypedLine.{TypedLine}

-- ---- one line

-- a line feed (10) ends each line but the last
abbrev pub with_end : Bool → List ℕ → List ℕ
with_end true text = text
with_end false text = text ++ 10 ∷ []

-- the bytes of a line as it was typed
abbrev pub typed_bytes : {A : Type 0} → TypedLine A → List ℕ
typed_bytes line = with_end line.is_last line.text.items

-- no line feed is in it
abbrev pub IsOneLine : List ℕ → Type 0
IsOneLine text = All (λ byte. (byte == 10) ≡ false) text

-- a line was typed, and the input has ended after the last one
pub record IsTyped {A : Type 0} (old new : Option (List ℕ)) (line : TypedLine A) : Type 0 where
  pub taken : Consumes old new (typed_bytes line)
  pub one : IsOneLine line.text.items
  pub end : line.is_last ≡ true → IsAtEnd new

-- a part of a line was typed, where a fault ends its reading
pub record IsBegun {A : Type 0} (limit : ℕ) (old new : Option (List ℕ)) (fault : RunFault A) : Type 0 where
  pub part : List ℕ
  pub taken : Consumes old new part
  pub one : fault ≡ Read → IsOneLine part
  pub long : fault ≡ TooLarge → limit < length part

-- ---- all lines

-- what is known of both writers
abbrev pub written_in : Known → Written
written_in k = record { replies = k.replies; errors = k.errors }

-- all that was typed is carried out
pub record Completes (s : Study) (old : Known) (before : Summary) (after : Study) (new : Known) (counted : Summary) : Type 0 where
  pub text : List ℕ
  pub typed : Consumes old.typed new.typed text
  pub at_end : IsAtEnd new.typed
  pub within : length text ≤ most
  pub prompts : Appends old.prompts new.prompts (prompts_for (typed_lines text))
  pub carried : CarriesOut true s (typed_lines text) (written_in old) before true after (written_in new) counted

-- a fault ends the dialog
pub record Breaks {A : Type 0} (s : Study) (old new : Known) (fault : RunFault A) : Type 0 where
  pub text : List ℕ
  pub typed : Consumes old.typed new.typed text
  pub prompts : AppendsPrefix old.prompts new.prompts (prompts_for (typed_lines text))
  pub written : WritesPart true s (typed_lines text) (written_in old) (written_in new)
  pub awaited : fault ≡ Read → Awaits s text old new
  pub long : fault ≡ TooLarge → most < length text

-- ---- faults

-- reading a line may fail so
abbrev pub MayEndLine : {A : Type 0} → RunFault A → Type 0
MayEndLine (Dump fault) = ⊥
MayEndLine (Baseline fault) = ⊥
MayEndLine (Names refusal) = ⊥
MayEndLine Read = Unit {0}
MayEndLine Write = ⊥
MayEndLine TooLarge = Unit {0}
MayEndLine OutOfMemory = Unit {0}

-- asking for lines and answering them may fail so
abbrev pub MayEndAsking : {A : Type 0} → RunFault A → Type 0
MayEndAsking (Dump fault) = ⊥
MayEndAsking (Baseline fault) = ⊥
MayEndAsking (Names refusal) = ⊥
MayEndAsking Read = Unit {0}
MayEndAsking Write = Unit {0}
MayEndAsking TooLarge = Unit {0}
MayEndAsking OutOfMemory = Unit {0}
