-- Prefixes that routers have no entry for any more: lost ones, or those that are gone.
use Rattle.std.specs.Prelude.{ℕ, List, codes}
use Rattle.lsdb.specs.Lists.{Lists}
use Rattle.study_words.specs.declared.see_word.SeeWord.{SeeWord}
use Rattle.study_words.specs.declared.see_word.SeeWord.TheVariants as words
use Rattle.change_lines.specs.PairTexts.{PairLineValue}
use Rattle.change_lines.specs.declared.pair.Pair.{Pair}
use Rattle.comparison.specs.Compared.{Compared}
use Rattle.comparison.specs.Named.{gone, lost}
use Rattle.change_report.specs.Lines.{gone_lines, lost_lines}
use Rattle.study_answers.specs.declared.missing.Missing.{Missing}
use Rattle.study_answers.specs.declared.missing.Missing.TheVariants as missing

-- two databases beside each other
abbrev pub beside : Lists → Lists → Compared
beside baseline db = record { baseline = baseline; present = db }

-- the word of the question
abbrev pub missing_word : Missing → SeeWord
missing_word missing.Lost = words.Lost
missing_word missing.Gone = words.Gone

-- that of the condition
abbrev pub missing_text : Missing → List ℕ
missing_text missing.Lost = codes "lost"
missing_text missing.Gone = codes "gone"

-- the routers, each with a prefix
unfoldable pub missing_pairs : Missing → Compared → List Pair
missing_pairs missing.Lost both = lost both
missing_pairs missing.Gone both = gone both

-- the same with what they used
unfoldable pub missing_lines : Missing → Compared → List PairLineValue
missing_lines missing.Lost both = lost_lines both
missing_lines missing.Gone both = gone_lines both
