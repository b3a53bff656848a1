-- Texts and documents: each line is answered in one of both forms.
use Rattle.std.specs.Prelude.{ℕ, List, [], ◌++◌, codes, unwrap_or}
use Rattle.std.specs.List.{slice_get}
use Rattle.text_words.specs.Words.{Word}
use Rattle.study_hints.specs.Escaped.{escaped}
use Rattle.refusal_hints.specs.Advice.{HintValue}
use Rattle.study_json.specs.Fields.{Fields, more_text}
use Rattle.study_documents.specs.Documents.{front_text}
use Rattle.study_documents.specs.Outcomes.{fault_reply}
use Rattle.study_session.specs.Contexts.{ContextValue}
use Rattle.study_session.specs.declared.format.Format.{Format}
use Rattle.study_session.specs.declared.format.Format.TheVariants as format

-- the one of both that a form takes
abbrev pub in_format : {X : Type 0} → Format → X → X → X
in_format format.Text text document = text
in_format format.Json text document = document

-- the command word, as it was written
abbrev pub command_word : ContextValue → Word
command_word x = unwrap_or (slice_get x.words 0) []

-- what stands in a document before the members of the reply: the branch, the word, and what became of the line
abbrev pub front : ContextValue → List ℕ → List ℕ
front x became = front_text x.branch (command_word x) became

-- the document of a line, after its place, with these members of the reply
abbrev pub document : ContextValue → List ℕ → Fields → List ℕ
document x became fields = front x became ++ more_text fields

-- that of a line that is refused, for a code and its name
abbrev pub refused_document : ContextValue → List ℕ × List ℕ → HintValue → List ℕ
refused_document x texts hint = document x (codes "refused") (fault_reply texts (escaped hint.word) hint.text)
