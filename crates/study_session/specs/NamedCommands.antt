-- Commands of `ospf-plan` in whose lines names stand, and what they are answered.
use Rattle.std.specs.Prelude.{ℕ, nat_lt, if◌then◌else◌, List, [], ◌∷◌, ◌++◌, length, Option, None, Some, codes, decimal}
use Rattle.std.specs.Option.{option_map_or}
use Rattle.lsa_codec.specs.declared.address.RouterId.{RouterId}
use Rattle.edit_history.specs.Session.{Session, most_edits, state}
use Rattle.study_text.specs.Shown.{Called}
use Rattle.link_report.specs.Links.{LinkValue, link_at}
use Rattle.link_report.specs.LinkTexts.{description, name_text}
use Rattle.branches.specs.Branches.{Sessions, stepped}
use Rattle.lsa_codec.specs.declared.address.AreaId.{AreaId}
use Rattle.edit_script.specs.declared.command.Command.{Command}
use Rattle.edit_script.specs.declared.command.Command.TheVariants as command
use Rattle.edit_script.specs.declared.edit.Edit.TheVariants as edit
use Rattle.study_arguments.specs.declared.link.LinkName.{LinkName}
use Rattle.study_arguments.specs.declared.link.LinkName.TheVariants.{Address, Number, Prefix}
use Rattle.study_script.specs.declared.named_command.NamedCommand.{NamedCommand}
use Rattle.study_script.specs.declared.named_command.NamedCommand.TheVariants as named_command
use Rattle.link_report.specs.AnyAge.{router_lsa_of_any_age}
use Rattle.link_report.specs.NamedLinks.{link_numbers}
use Rattle.study_session.specs.declared.link_edit.LinkEdit.{LinkEdit}
use Rattle.study_session.specs.declared.link_edit.LinkEdit.TheVariants as link
use Rattle.study_answers.specs.Answers.{AnswerValue, refused_answer}
use Rattle.refusal_hints.specs.CommandHints.{many_links_hint}
use Rattle.study_json.specs.Fields.{Fields, more_text}
use Rattle.study_json.specs.Links.{link_json}
use Rattle.study_documents.specs.Outcomes.{cost_reply}
use Rattle.study_session.specs.Contexts.{ContextValue, situation}
use Rattle.study_session.specs.Explained.{refused_with}
use Rattle.study_session.specs.Formats.{in_format}
use Rattle.study_session.specs.PlanAnswers.{command_answer, differing_answer}
use Rattle.study_session.specs.Ways.{way_of}
use Rattle.study_session.specs.declared.way.Way.{Way}
use Rattle.study_session.specs.declared.way.Way.TheVariants.{Plain, Link, Differing}

-- ---- which link is named

-- the numbers of the links that a word names; none, where the area has no router-LSA of the router
abbrev pub numbers_in : Session → AreaId → RouterId → LinkName → List ℕ
numbers_in s area router name = option_map_or (link_numbers name) (router_lsa_of_any_age (state s) area router) []

-- the number of the one link; 0, which no link has, where there is none
abbrev pub one_of : List ℕ → Option ℕ
one_of [] = Some 0
one_of (number ∷ []) = Some number
one_of (number ∷ next ∷ numbers) = None

-- the number of the link that a word names, if it does not name several. Where no edit may be done any more, none is looked up
unfoldable pub number_found : Session → AreaId → RouterId → LinkName → Option ℕ
number_found s area router name = if nat_lt (length s.done) most_edits then one_of (numbers_in s area router name) else Some 0

-- the same of a link that is named by its number, or by a word
unfoldable pub named_number : Session → AreaId → RouterId → LinkName → Option ℕ
named_number s area router (Number number) = Some number
named_number s area router (Address address) = number_found s area router (Address address)
named_number s area router (Prefix net) = number_found s area router (Prefix net)

-- ---- edits of links that are named

-- the edit of the link with a number
abbrev pub link_edit : LinkEdit → AreaId → RouterId → ℕ → Command
link_edit (link.Cost metric) area router number = command.Edit (edit.Cost area router number metric)
link_edit link.Drop area router number = command.Edit (edit.DropLink area router number)

-- what is said of the link: ` NAME: OLD -> NEW`, or ` gone DESCRIPTION`
unfoldable pub edited_text : LinkEdit → Called → LinkValue → List ℕ
edited_text (link.Cost metric) called v =
    codes " " ++ name_text called v ++ codes ": " ++ decimal v.link.metric ++ codes " -> " ++ decimal metric
edited_text link.Drop called v = codes " gone " ++ description called v

-- if there is such a link; then the line ends
unfoldable pub change_text : LinkEdit → Called → Option LinkValue → List ℕ
change_text edit called v = option_map_or (edited_text edit called) v [] ++ codes "\n"

-- the members of a document about it
abbrev pub link_fields : LinkEdit → LinkValue → Fields
link_fields (link.Cost metric) v = cost_reply v metric
link_fields link.Drop v = (codes "link", link_json v) ∷ []

-- what is said of the link, in a form of answers
unfoldable pub link_change : ContextValue → LinkEdit → Option LinkValue → List ℕ
link_change x edit v = in_format x.format (change_text edit x.called v) (more_text (option_map_or (link_fields edit) v []))

abbrev pub many_links : List ℕ × List ℕ
many_links = (codes "E14", codes "ManyLinks")

module _ (x : ContextValue) (s : Session) where
  -- the answer to an edit of the link with a number, if not several are named
  unfoldable pub link_answer : AreaId → RouterId → LinkName → LinkEdit → Option ℕ → AnswerValue
  link_answer area router name edit None =
      refused_with x many_links (many_links_hint (situation x s) x.words area router name) (refused_answer x.branch many_links)
  link_answer area router name edit (Some number) =
      command_answer x s (link_edit edit area router number) (Some (link_change x edit (link_at (state s) area router number)))

  -- the answer to a command, by how it is carried out
  unfoldable pub way_answer : Way → AnswerValue
  way_answer (Plain c) = command_answer x s c None
  way_answer (Link area router name edit) = link_answer area router name edit (named_number s area router name)
  way_answer (Differing edit) = differing_answer x s (command.Edit edit)

  -- the answer to a command in whose line names may stand
  unfoldable pub named_answer : NamedCommand → AnswerValue
  named_answer c = way_answer (way_of x.is_verbose c)

-- ---- sessions

-- the sessions after an edit of a link; where several links are named, it is not carried out
unfoldable pub link_stepped : ℕ → AreaId → RouterId → LinkEdit → Option ℕ → Sessions → Sessions
link_stepped branch area router edit None all = all
link_stepped branch area router edit (Some number) all = stepped branch (link_edit edit area router number) all

-- the sessions after a command with names
unfoldable pub named_stepped : ℕ → NamedCommand → Sessions → Sessions
named_stepped branch (named_command.Command c) all = stepped branch c all
named_stepped branch (named_command.Cost area router name metric) all =
    link_stepped branch area router (link.Cost metric) (named_number (all branch) area router name) all
named_stepped branch (named_command.DropLink area router name) all =
    link_stepped branch area router link.Drop (named_number (all branch) area router name) all
