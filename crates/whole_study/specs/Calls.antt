-- What a run does to its writers, and how it may end.
use Rattle.std.specs.Prelude.{◌≡◌, ◌<◌, ◌⊎◌, ℕ, nat_lt, Bool, true, List, length, Option, Some, option_map, Result, Err, IfErr, IfSome, OnOk, is_some}
use Rattle.std.specs.List.{list_all, list_any}
use Rattle.std.specs.Io.KnownBytes.{Appends}
use Rattle.host_io.specs.WholeText.{AppendsPrefix}
use Rattle.lsdb.specs.declared.fault.DumpFaultKind.TheVariants as kind
use Rattle.network_names.specs.File.{names_in}
use Rattle.study_session.specs.Studies.{Study}
use Rattle.whole_run.specs.Inputs.{IsAccepted, IsRefusedDump}
use Rattle.whole_study.specs.Begin.{AreAccepted, names_of}
use Rattle.whole_study.specs.Given.{Given, NamedText}
use Rattle.whole_study.specs.Lines.{Line}
use Rattle.whole_study.specs.Run.{Answered, AreAnswered, Gives, GivesFirst, dump_left, errors_of, has_passed, is_accepted, replies_of, summary_of, whole_replies}
use Rattle.whole_study.specs.declared.fault.RunFault.{RunFault}
use Rattle.whole_study.specs.declared.fault.RunFault.TheVariants.{Dump, Baseline, Names, Read, Write, TooLarge, OutOfMemory}
use Rattle.whole_study.specs.declared.running.Ended.{Ended}
use Rattle.whole_study.specs.declared.running.Manner.{Manner}

-- ---- what is written

-- what is given of lines, where a run carries them out: it is written and counted, and the dump is that of the study after them
pub record Ends {A : Type 0} (manner : Manner) (s : Study) (lines : List Line) (old_replies new_replies old_errors new_errors : Option (List ℕ)) (ended : Ended A)
    : Type 0 where
  pub given : List Answered
  pub gives : Gives manner.keep_going s lines given
  pub replies : Appends old_replies new_replies (whole_replies s.format given)
  pub errors : Appends old_errors new_errors (errors_of given)
  pub summary : ended.summary ≡ summary_of given
  pub verdict : has_passed ended.summary ≡ list_all is_accepted given
  pub complete : has_passed ended.summary ≡ true → AreAnswered s lines given
  pub dump : option_map (λ dump. dump.items) ended.dump ≡ dump_left manner.wants_dump s lines given

-- a prefix of the replies to the first lines, or to all that a run gives and of the summary
pub data IsPart (keep_going : Bool) (s : Study) (lines : List Line) (given : List Answered) (replies new_replies : Option (List ℕ)) : Type 0 where
  of_first : GivesFirst keep_going s lines given → AppendsPrefix replies new_replies (replies_of given) → IsPart keep_going s lines given replies new_replies
  of_all : Gives keep_going s lines given → AppendsPrefix replies new_replies (whole_replies s.format given) → IsPart keep_going s lines given replies new_replies

-- in any case both writers got a prefix of what is given of lines
pub record WritesPrefix (keep_going : Bool) (s : Study) (lines : List Line) (old_replies new_replies old_errors new_errors : Option (List ℕ)) : Type 0 where
  pub given : List Answered
  pub replies : IsPart keep_going s lines given old_replies new_replies
  pub errors : AppendsPrefix old_errors new_errors (errors_of given)

-- ---- faults

-- a names file and each study may have this number of bytes, and there may be this number of studies: 2^20
abbrev pub most : ℕ
most = 1048576

-- a study is longer
abbrev pub HasLonger : List NamedText → Type 0
HasLonger studies = list_any (λ study. nat_lt most (length study.text)) studies ≡ true

-- too much to read: too many studies, or too many bytes in the names file or in a study
abbrev pub IsTooMuch : Given → Type 0
IsTooMuch given = (most < length given.studies) ⊎ ((most < length (names_of given)) ⊎ HasLonger given.studies)

-- a run reports that an input is refused, for its first fault, where those before it are accepted; a baseline that is too
-- large is reported before the dump is opened
abbrev pub MayEndRun : {A : Type 0} → Given → RunFault A → Type 0
MayEndRun given (Dump fault) = IsRefusedDump (Some given.dump) fault
MayEndRun given (Baseline fault) =
    (is_some given.baseline ≡ true) × (IsRefusedDump given.baseline fault × (IsAccepted given.dump ⊎ (fault.kind ≡ kind.TooLarge)))
MayEndRun given (Names refusal) =
    IsAccepted given.dump × (IfSome given.baseline IsAccepted × (names_in (names_of given) ≡ Err (refusal.line, refusal.kind, refusal.word.items)))
MayEndRun given Read = Unit {0}
MayEndRun given Write = AreAccepted given
MayEndRun given TooLarge = IsTooMuch given
MayEndRun given OutOfMemory = Unit {0}

-- faults that come before anything is written
abbrev pub IsBeforeReplies : {A : Type 0} → RunFault A → Type 0
IsBeforeReplies (Dump fault) = Unit {0}
IsBeforeReplies (Baseline fault) = Unit {0}
IsBeforeReplies (Names refusal) = Unit {0}
IsBeforeReplies Read = Unit {0}
IsBeforeReplies Write = ⊥
IsBeforeReplies TooLarge = Unit {0}
IsBeforeReplies OutOfMemory = ⊥

-- a file is refused for what it has
abbrev pub IsRefusal : {A : Type 0} → RunFault A → Type 0
IsRefusal (Dump fault) = Unit {0}
IsRefusal (Baseline fault) = Unit {0}
IsRefusal (Names refusal) = Unit {0}
IsRefusal Read = ⊥
IsRefusal Write = ⊥
IsRefusal TooLarge = ⊥
IsRefusal OutOfMemory = ⊥

-- a call succeeds only where all inputs are accepted and not too much, and ends with no fault but of these
pub record FitsInputs {T A : Type 0} (given : Given) (result : Result T (RunFault A)) : Type 0 where
  pub accepted : OnOk result (AreAccepted given)
  pub within : OnOk result (IsTooMuch given → ⊥)
  pub faults : IfErr result (MayEndRun given)
