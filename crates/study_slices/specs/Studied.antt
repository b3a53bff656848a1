-- What a study over bytes in memory writes and leaves.
use Rattle.std.specs.Prelude.{◌≡◌, ℕ, List, [], ◌∷◌, Option, Some, codes, option_map, unwrap_or}
use Rattle.whole_study.specs.Begin.{Begins}
use Rattle.whole_study.specs.Given.{Given, NamedText}
use Rattle.whole_study.specs.Lines.{all_lines}
use Rattle.whole_study.specs.Run.{Answered, Gives, dump_left, errors_of, summary_of, whole_replies}
use Rattle.study_session.specs.Studies.{Study}
use Rattle.whole_study.specs.declared.running.Manner.{Manner}
use Rattle.whole_study.specs.declared.summary.Summary.{Summary}
use Rattle.study_slices.specs.declared.studying.StudyTexts.{StudyTexts}

-- the inputs of a run: one study, which is named `-` as standard input is
abbrev pub given_of : List ℕ → Option (List ℕ) → List ℕ → List ℕ → Given
given_of dump baseline names study = record {
  dump = dump;
  baseline = baseline;
  names = Some names;
  studies = record { name = codes "-"; text = study } ∷ [];
}

-- the texts of a study that is carried out on these inputs, and what it counts: the replies to the lines that it gives, with
-- the summary, a line for each that is not accepted, and the dump that is left, where it is wanted and all are accepted
pub record AreStudied (manner : Manner) (given : Given) (replies errors dump : List ℕ) (summary : Summary) : Type 0 where
  pub study : Study
  pub begins : Begins manner given study
  pub answered : List Answered
  pub gives : Gives manner.keep_going study (all_lines given.studies) answered
  pub replies_are : replies ≡ whole_replies study.format answered
  pub errors_are : errors ≡ errors_of answered
  pub summary_is : summary ≡ summary_of answered
  pub dump_is : dump ≡ unwrap_or (dump_left manner.wants_dump study (all_lines given.studies) answered) []

abbrev pub AreTextsOf : {A : Type 0} → Manner → Given → StudyTexts A → Type 0
AreTextsOf manner given texts = AreStudied manner given texts.replies.items texts.errors.items texts.dump.items texts.summary
