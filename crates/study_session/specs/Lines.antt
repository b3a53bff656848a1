-- What lines are answered, and the study after them.
use Rattle.std.specs.Prelude.{◌≡◌, ℕ, List, ◌++◌, Option, None, Some, Result, Ok, Err, codes}
use Rattle.branches.specs.Branches.{Sessions, stepped}
use Rattle.edit_history.specs.Session.{Session}
use Rattle.edit_script.specs.Words.{words}
use Rattle.study_arguments.specs.Fault.{FaultAt, code_of, name_of}
use Rattle.study_arguments.specs.Values.{Lookup}
use Rattle.text_words.specs.Words.{Word}
use Rattle.study_script.specs.Line.{Asked, plan, named, see, expect, meaning}
use Rattle.study_script.specs.declared.named_command.NamedCommand.TheVariants as named_command
use Rattle.study_answers.specs.Answers.{AnswerValue, fault_answer}
use Rattle.json.specs.Json.{string}
use Rattle.study_hints.specs.Escaped.{escaped}
use Rattle.study_hints.specs.Hints.{command_at, hint}
use Rattle.study_json.specs.Fields.{Fields, more_text}
use Rattle.study_documents.specs.Documents.{next_text}
use Rattle.study_documents.specs.Outcomes.{fault_reply}
use Rattle.study_session.specs.Studies.{Study}
use Rattle.study_session.specs.Contexts.{ContextValue, context_in}
use Rattle.study_session.specs.Formats.{in_format}
use Rattle.study_session.specs.declared.format.Format.{Format}
use Rattle.study_session.specs.Seen.{IsExpectedAs, IsSeenAs}
use Rattle.study_session.specs.NamedCommands.{named_answer, named_stepped}

-- the answer to what is asked for in a branch with this session
unfoldable pub IsAnswerIn : ContextValue → Session → Asked → AnswerValue → Type 0
IsAnswerIn x s (plan c) answer = answer ≡ named_answer x s (named_command.Command c)
IsAnswerIn x s (named c) answer = answer ≡ named_answer x s c
IsAnswerIn x s (see question) answer = IsSeenAs x s x.format question answer
IsAnswerIn x s (expect is_not what) answer = IsExpectedAs x s x.format is_not what answer

-- the members of the document of a line that has a fault
abbrev pub fault_fields : Lookup → List Word → List ℕ → FaultAt → Fields
fault_fields names known line fault =
    fault_reply (code_of fault.0, name_of fault.0) (escaped fault.1) (hint names known (command_at (words line)) fault)

-- that document, after its place
abbrev pub fault_document : Lookup → List Word → List ℕ → FaultAt → List ℕ
fault_document names known line fault =
    next_text (codes "answer") (string (codes "fault")) ++ more_text (fault_fields names known line fault)

-- the answer to a line that has a fault
unfoldable pub faulty : Format → Lookup → List Word → List ℕ → FaultAt → AnswerValue
faulty format names known line fault =
    record (fault_answer names known line fault) {
      text = in_format format (fault_answer names known line fault).text (fault_document names known line fault);
    }

-- the answer to a line with this meaning; a line without words, and a comment, have none
abbrev pub IsAnswerBy : Study → List ℕ → Result (Option (ℕ × Asked)) FaultAt → Option AnswerValue → Type 0
IsAnswerBy s line (Err fault) given = given ≡ Some (faulty s.format s.lookup s.known line fault)
IsAnswerBy s line (Ok None) given = given ≡ None
IsAnswerBy s line (Ok (Some found)) None = ⊥
IsAnswerBy s line (Ok (Some found)) (Some answer) = IsAnswerIn (context_in s found.0 line) (s.sessions found.0) found.1 answer

unfoldable pub IsAnswerTo : Study → List ℕ → Option AnswerValue → Type 0
IsAnswerTo s line given = IsAnswerBy s line (meaning s.lookup line) given

-- the sessions after what is asked for: only commands change them
unfoldable pub sessions_in : ℕ → Asked → Sessions → Sessions
sessions_in branch (plan c) all = stepped branch c all
sessions_in branch (named c) all = named_stepped branch c all
sessions_in branch (see question) all = all
sessions_in branch (expect is_not what) all = all

abbrev pub sessions_by : Result (Option (ℕ × Asked)) FaultAt → Sessions → Sessions
sessions_by (Err fault) all = all
sessions_by (Ok None) all = all
sessions_by (Ok (Some found)) all = sessions_in found.0 found.1 all

-- the study after a line: the baseline and the names stay
unfoldable pub after_line : Study → List ℕ → Study
after_line s line = record s { sessions = sessions_by (meaning s.lookup line) s.sessions }
