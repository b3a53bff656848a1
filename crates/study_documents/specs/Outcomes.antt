-- The members of what answers edits, expectations, and lines that are not carried out.
use Rattle.std.specs.Prelude.{ℕ, List, [], ◌∷◌, ◌++◌, codes}
use Rattle.json.specs.Json.{string}
use Rattle.link_report.specs.Links.{LinkValue}
use Rattle.study_words.specs.declared.condition_word.ConditionWord.{ConditionWord}
use Rattle.study_words.specs.ConditionWords.{condition_text}
use Rattle.study_json.specs.Fields.{Fields}
use Rattle.study_json.specs.Leaves.{number_json}
use Rattle.study_json.specs.Links.{link_json}
use Rattle.study_documents.specs.Documents.{next_text}

-- an edit of the cost of a link, by what the link was before
abbrev pub cost_reply : LinkValue → ℕ → Fields
cost_reply link cost = (codes "link", link_json link) ∷ (codes "was", number_json link.link.metric) ∷ (codes "now", number_json cost) ∷ []

-- an expectation, by what was found
abbrev pub expectation_reply : ConditionWord → List ℕ → Fields
expectation_reply condition found = (codes "expected", string (condition_text condition)) ∷ (codes "found", string found) ∷ []

-- ---- lines that are not carried out

-- the word at fault, and what would have been right
abbrev pub hint_reply : List ℕ → List ℕ → Fields
hint_reply at hint = (codes "at", string at) ∷ (codes "hint", string hint) ∷ []

-- why a line is refused, or the fault that it has, for a code and its name
abbrev pub fault_reply : List ℕ × List ℕ → List ℕ → List ℕ → Fields
fault_reply texts at hint = (codes "code", string texts.0) ∷ (codes "name", string texts.1) ∷ hint_reply at hint

-- the first two of these members
abbrev pub fault_text : List ℕ × List ℕ → List ℕ
fault_text texts = next_text (codes "code") (string texts.0) ++ next_text (codes "name") (string texts.1)
