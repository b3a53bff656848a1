-- How commands of `ospf-plan` are carried out.
use Rattle.std.specs.Prelude.{Bool, true}
use Rattle.edit_script.specs.declared.command.Command.{Command}
use Rattle.edit_script.specs.declared.command.Command.TheVariants as command
use Rattle.edit_script.specs.declared.edit.Edit.{Edit}
use Rattle.edit_script.specs.declared.edit.Edit.TheVariants as edit
use Rattle.study_arguments.specs.declared.link.LinkName.TheVariants.{Number}
use Rattle.study_script.specs.declared.named_command.NamedCommand.{NamedCommand}
use Rattle.study_script.specs.declared.named_command.NamedCommand.TheVariants as named_command
use Rattle.study_session.specs.declared.link_edit.LinkEdit.TheVariants as link
use Rattle.study_session.specs.declared.way.Way.{Way}
use Rattle.study_session.specs.declared.way.Way.TheVariants.{Plain, Link, Differing}

-- an edit that says what it changed: of the link with a number, or any other
unfoldable pub edit_way : Edit → Way
edit_way (edit.Cost area router number metric) = Link area router (Number number) (link.Cost metric)
edit_way (edit.DropLink area router number) = Link area router (Number number) link.Drop
edit_way other = Differing other

-- a command of `ospf-plan`: edits may say what they changed, and events do
unfoldable pub plan_way : Bool → Command → Way
plan_way says (command.Edit (edit.Event event)) = Differing (edit.Event event)
plan_way true (command.Edit edit) = edit_way edit
plan_way says c = Plain c

-- a command in whose line names may stand
unfoldable pub way_of : Bool → NamedCommand → Way
way_of says (named_command.Cost area router name metric) = Link area router name (link.Cost metric)
way_of says (named_command.DropLink area router name) = Link area router name link.Drop
way_of says (named_command.Command c) = plan_way says c
