-- Words that `ospf-plan` does not know.
use Rattle.std.proofs.Common.{◌≡◌, List, Err, refl}
use Rattle.std.specs.Prelude.{codes}
use Rattle.edit_script.specs.declared.fault.ScriptFault.TheVariants.{UnknownWord}
use Rattle.edit_script.specs.Reading.{command_of, edit_of, route_edit_of}
use Rattle.edit_script.specs.Words.{Word}
use Rattle.study_words.specs.EventWords.{event_text}
use Rattle.study_words.specs.SeeWords.{see_text}
use Rattle.study_words.specs.Written.{written}
use Rattle.study_words.specs.declared.event_word.EventWord.{EventWord}
use Rattle.study_words.specs.declared.event_word.EventWord.TheVariants as event_words
use Rattle.study_words.specs.declared.see_word.SeeWord.{SeeWord}
use Rattle.study_words.specs.declared.see_word.SeeWord.TheVariants as words

-- the last clause is tried at each of the other words
pub question_unknown : (word : SeeWord) (arguments : List Word) → command_of (see_text word) arguments ≡ Err UnknownWord
unfolding command_of edit_of route_edit_of written
question_unknown words.Routers arguments = refl
question_unknown w arguments = refl

pub event_unknown : (word : EventWord) (arguments : List Word) → command_of (event_text word) arguments ≡ Err UnknownWord
unfolding command_of edit_of route_edit_of written
event_unknown event_words.Cut arguments = refl
event_unknown w arguments = refl

pub expect_unknown : (arguments : List Word) → command_of (codes "expect") arguments ≡ Err UnknownWord
unfolding command_of edit_of route_edit_of
expect_unknown arguments = refl
