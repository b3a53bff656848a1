-- What a command word of an event means, and the words after it.
use Rattle.std.specs.Prelude.{Bool, false, List, [], ◌∷◌, Result, if◌then◌else◌}
use Rattle.std.specs.Option.{is_some}
use Rattle.edit_script.specs.declared.command.Command.TheVariants as command
use Rattle.edit_script.specs.declared.edit.Edit.TheVariants as edit
use Rattle.edit_script.specs.declared.event.Event.{Event}
use Rattle.edit_script.specs.declared.event.Event.TheVariants as events
use Rattle.study_words.specs.declared.event_word.EventWord.{EventWord}
use Rattle.study_words.specs.declared.event_word.EventWord.TheVariants as words
use Rattle.study_script.specs.declared.named_command.NamedCommand.{NamedCommand}
use Rattle.study_script.specs.declared.named_command.NamedCommand.TheVariants as named_command
use Rattle.study_arguments.specs.Fault.{FaultAt, made}
use Rattle.study_arguments.specs.Positions.{At}
use Rattle.study_arguments.specs.Values.{Lookup, addr, ends, is_like_prefix, number16, number32, prefix, router_id}
use Rattle.study_arguments.specs.Arguments.{one_of, three_or_four_of, two_of, two_or_three_of}
use Rattle.study_script.specs.PlanLines.{edited}

-- an event is carried out as an edit
abbrev pub happens : Event → NamedCommand
happens event = edited (edit.Event event)

-- the second argument, where there is one, is meant as a prefix
abbrev pub names_network : At → Bool
names_network (word, []) = false
names_network (word, first ∷ []) = false
names_network (word, first ∷ second ∷ rest) = is_like_prefix second

-- a router leaves a network, or links of two routers go
unfoldable pub cut_of : Lookup → At → Result NamedCommand FaultAt
cut_of names line =
    if names_network line then made (λ x. happens (events.Leave x.0 x.1)) (two_of (router_id names) (prefix names) line)
    else made (λ x. happens (events.Cut x.0 x.1 x.2)) (two_or_three_of (router_id names) (router_id names) (addr names) line)

-- `back` takes edits back, and an event is one
unfoldable pub event_line_of : Lookup → EventWord → At → Result NamedCommand FaultAt
event_line_of names words.Cut line = cut_of names line
event_line_of names words.SetCost line =
    made (λ x. happens (events.SetCost x.0 x.1 x.2 (is_some x.3)))
    (three_or_four_of (router_id names) (addr names) (number16 names) (ends names) line)
event_line_of names words.Drain line = made (λ router. happens (events.Drain router)) (one_of (router_id names) line)
event_line_of names words.Fail line = made (λ router. happens (events.Fail router)) (one_of (router_id names) line)
event_line_of names words.Back line = made (λ count. named_command.Command (command.Undo count)) (one_of (number32 names) line)
