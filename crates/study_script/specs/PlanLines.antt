-- What a command word that `ospf-plan` has means, where names may stand for addresses and a link may be named.
use Rattle.std.specs.Prelude.{Result}
use Rattle.edit_script.specs.declared.command.Command.TheVariants as command
use Rattle.edit_script.specs.declared.edit.Edit.{Edit}
use Rattle.edit_script.specs.declared.edit.Edit.TheVariants as edit
use Rattle.study_words.specs.declared.plan_word.PlanWord.{PlanWord}
use Rattle.study_words.specs.declared.plan_word.PlanWord.TheVariants as words
use Rattle.study_script.specs.declared.named_command.NamedCommand.{NamedCommand}
use Rattle.study_script.specs.declared.named_command.NamedCommand.TheVariants as named_command
use Rattle.study_arguments.specs.Fault.{FaultAt, made}
use Rattle.study_arguments.specs.Positions.{At, end}
use Rattle.study_arguments.specs.Values.{Lookup, addr, area_id, dotted, link, metric24, metric_type, number16, number32, prefix, router_id}
use Rattle.study_arguments.specs.Arguments.{four_of, one_of, six_of, three_of, two_of}

-- what a word means that stands alone
abbrev pub alone : {A : Type 0} → A → At → Result A FaultAt
alone meaning line = made (λ _. meaning) (end line)

-- an edit whose link, if it has one, is a number
abbrev pub edited : Edit → NamedCommand
edited e = named_command.Command (command.Edit e)

-- a command word of `ospf-plan`, and the words after it
unfoldable pub plan_line_of : Lookup → PlanWord → At → Result NamedCommand FaultAt
plan_line_of names words.Cost line =
    made (λ x. named_command.Cost x.0 x.1 x.2 x.3) (four_of (area_id names) (router_id names) (link names) (number16 names) line)
plan_line_of names words.DropLink line =
    made (λ x. named_command.DropLink x.0 x.1 x.2) (three_of (area_id names) (router_id names) (link names) line)
plan_line_of names words.FailLink line =
    made (λ x. edited (edit.FailLink x.0 x.1 x.2)) (three_of (area_id names) (router_id names) (router_id names) line)
plan_line_of names words.FailNet line = made (λ x. edited (edit.FailNet x.0 x.1)) (two_of (area_id names) (addr names) line)
plan_line_of names words.FailRouter line = made (λ router. edited (edit.FailRouter router)) (one_of (router_id names) line)
plan_line_of names words.AddStub line =
    made (λ x. edited (edit.AddStub x.0 x.1 x.2 x.3)) (four_of (area_id names) (router_id names) (prefix names) (number16 names) line)
plan_line_of names words.Summary line =
    made (λ x. edited (edit.Summary x.0 x.1 x.2 x.3)) (four_of (area_id names) (router_id names) (prefix names) (metric24 names) line)
plan_line_of names words.AddSummary line =
    made (λ x. edited (edit.AddSummary x.0 x.1 x.2 x.3)) (four_of (area_id names) (router_id names) (prefix names) (metric24 names) line)
plan_line_of names words.AddExternal line =
    made (λ x. edited (edit.AddExternal x.0 x.1 x.2 x.3 x.4.0 x.5))
    (six_of (router_id names) (prefix names) (metric_type names) (metric24 names) (dotted names) (number32 names) line)
plan_line_of names words.DropExternal line = made (λ x. edited (edit.DropExternal x.0 x.1)) (two_of (router_id names) (prefix names) line)
plan_line_of names words.Refresh line = alone (edited edit.Refresh) line
plan_line_of names words.Undo line = made (λ count. named_command.Command (command.Undo count)) (one_of (number32 names) line)
plan_line_of names words.Redo line = made (λ count. named_command.Command (command.Redo count)) (one_of (number32 names) line)
plan_line_of names words.Table line = made (λ router. named_command.Command (command.Table router)) (one_of (router_id names) line)
plan_line_of names words.Tables line = alone (named_command.Command command.Tables) line
plan_line_of names words.Compare line = made (λ router. named_command.Command (command.Compare router)) (one_of (router_id names) line)
plan_line_of names words.Info line = alone (named_command.Command command.Info) line
