-- The documents about the edits that are done, and about the language.
use Rattle.std.specs.Prelude.{ℕ, List, [], ◌∷◌, ◌++◌, map, Option, None, Some, codes}
use Rattle.json.specs.Json.{Json, string}
use Rattle.edit_script.specs.declared.edit.Edit.{Edit}
use Rattle.edit_script.specs.Spelling.{spelling}
use Rattle.study_words.specs.declared.condition_word.ConditionWord.{ConditionWord}
use Rattle.study_words.specs.declared.study_word.StudyWord.{StudyWord}
use Rattle.study_words.specs.declared.study_word.StudyWord.TheVariants.{Plan, See, Event, Expect}
use Rattle.study_words.specs.ConditionWords.{condition_words}
use Rattle.study_hints.specs.Grammar.{command_text, expectation_text}
use Rattle.study_hints.specs.Help.{command_meaning, commands}
use Rattle.study_json.specs.Fields.{object_of}
use Rattle.study_json.specs.Leaves.{option_json}
use Rattle.study_documents.specs.Replies.{listing}
use Rattle.document_answers.specs.Documented.{DocumentedValue, HasMembers}

-- ---- edits

-- the done edits, each spelled in its one way
unfoldable pub IsLogDocument : List Edit → DocumentedValue → Type 0
IsLogDocument edits given = HasMembers (listing (codes "lines") string (map spelling edits)) given

-- ---- the language

-- a line of `help`, and what it means, if it has a meaning of its own
pub record HelpValue : Type 0 where
  pub line : List ℕ
  pub meaning : Option (List ℕ)

abbrev pub command_help : StudyWord → HelpValue
command_help word = record { line = command_text word; meaning = Some (command_meaning word) }

abbrev pub condition_help : ConditionWord → HelpValue
condition_help word = record { line = expectation_text word; meaning = None }

abbrev pub all_conditions : List HelpValue
all_conditions = map condition_help condition_words

-- `expect` is followed by the conditions
abbrev pub conditions_after : StudyWord → List HelpValue
conditions_after (Plan word) = []
conditions_after (See word) = []
conditions_after (Event word) = []
conditions_after Expect = all_conditions

-- the lines of all words, or those of one
abbrev pub help_of : Option StudyWord → List HelpValue
help_of None = map command_help commands ++ all_conditions
help_of (Some word) = command_help word ∷ conditions_after word

abbrev pub help_json : HelpValue → Json
help_json help = object_of ((codes "line", string help.line) ∷ (codes "meaning", option_json string help.meaning) ∷ [])

unfoldable pub IsHelpDocument : Option StudyWord → DocumentedValue → Type 0
IsHelpDocument word given = HasMembers (listing (codes "words") help_json (help_of word)) given
