-- What would have been right in a command that is refused.
use Rattle.std.specs.Prelude.{ℕ, List, [], ◌++◌, map, codes, decimal, Option, None, Some, if◌then◌else◌}
use Rattle.std.specs.Option.{option_map_or}
use Rattle.lsa_codec.specs.declared.address.AreaId.{AreaId}
use Rattle.lsa_codec.specs.declared.address.RouterId.{RouterId}
use Rattle.lsdb.specs.Lists.{Lists}
use Rattle.text_words.specs.Words.{Word}
use Rattle.edit_script.specs.declared.command.Command.{Command}
use Rattle.edit_script.specs.declared.command.Command.TheVariants as command
use Rattle.edit_script.specs.declared.edit.Edit.{Edit}
use Rattle.edit_history.specs.declared.fault.EditFault.{EditFault}
use Rattle.link_report.specs.AnyAge.{router_lsa_of_any_age}
use Rattle.link_report.specs.NamedLinks.{link_numbers}
use Rattle.study_arguments.specs.declared.link.LinkName.{LinkName}
use Rattle.study_text.specs.Lists.{joined}
use Rattle.refusal_hints.specs.Advice.{AdviceValue, HintValue, advice, hint_in, no_advice}
use Rattle.refusal_hints.specs.EditHints.{edit_advice}
use Rattle.refusal_hints.specs.RouterHints.{unattached_hint}
use Rattle.refusal_hints.specs.Situation.{SituationValue, is_attached}

-- `3 edits are done`
abbrev pub done_text : ℕ → List ℕ
done_text count = decimal count ++ codes " edits are done"

abbrev pub undone_text : ℕ → List ℕ
undone_text count = decimal count ++ codes " edits are undone"

-- a router that is attached has no table to compare with, or it is not attached
abbrev pub compare_hint : SituationValue → RouterId → List ℕ
compare_hint s router = if is_attached s router then codes "the loaded database lacks it" else unattached_hint s router

-- E1 to E12
abbrev pub fault_advice : Lists → Edit → Option EditFault → AdviceValue
fault_advice db edit (Some why) = edit_advice db edit why
fault_advice db edit None = no_advice

-- E1 to E12, by the reason; U1 and U2; N1
abbrev pub command_advice : SituationValue → Command → Option EditFault → AdviceValue
command_advice s (command.Edit edit) why = fault_advice s.database edit why
command_advice s (command.Undo count) why = advice 1 (done_text s.done)
command_advice s (command.Redo count) why = advice 1 (undone_text s.undone)
command_advice s (command.Table router) why = advice 1 (unattached_hint s router)
command_advice s (command.Compare router) why = advice 1 (compare_hint s router)
command_advice s command.Tables why = no_advice
command_advice s command.Info why = no_advice

-- in a line with these words from the command word on; of an edit with the reason
abbrev pub command_hint : SituationValue → List Word → Command → Option EditFault → HintValue
command_hint s words what why = hint_in words (command_advice s what why)

-- E14, where a word names several links of a router: their numbers, as `#1 #3`
abbrev pub named_links : SituationValue → AreaId → RouterId → LinkName → List ℕ
named_links s area router name = option_map_or (link_numbers name) (router_lsa_of_any_age s.database area router) []

abbrev pub numbers_text : List ℕ → List ℕ
numbers_text numbers = codes "#" ++ joined (codes " #") (map decimal numbers)

abbrev pub many_links_hint : SituationValue → List Word → AreaId → RouterId → LinkName → HintValue
many_links_hint s words area router name = hint_in words (advice 3 (numbers_text (named_links s area router name)))
