-- How a command is spelled: its command word and its arguments.
use Rattle.std.specs.Prelude.{◌≡◌, ℕ, ◌<◌, ◌^◌, ◌⊎◌, Bool, true, false, List, [], ◌∷◌, ◌++◌, Option, Some, None, codes, decimal}
use Rattle.std.specs.List.{join_with_byte}
use Rattle.lsa_codec.specs.declared.address.Addr.{Addr}
use Rattle.lsa_codec.specs.Spelling.{address_text, prefix_text}
use Rattle.lsa_codec.specs.Prefix.{Net, IsNet}
use Rattle.edit_script.specs.declared.edit.Edit.{Edit}
use Rattle.edit_script.specs.declared.edit.Edit.TheVariants.{Cost, DropLink, FailLink, FailNet, FailRouter, AddStub, Summary, AddSummary, AddExternal, DropExternal, Refresh, Event as of_event}
use Rattle.edit_script.specs.declared.event.Event.{Event}
use Rattle.edit_script.specs.declared.event.Event.TheVariants as events
use Rattle.edit_script.specs.declared.edit.MetricType.{MetricType}
use Rattle.edit_script.specs.declared.edit.MetricType.TheVariants.{Type1, Type2}
use Rattle.edit_script.specs.declared.command.Command.{Command}
use Rattle.edit_script.specs.declared.command.Command.TheVariants as command
use Rattle.edit_script.specs.Words.{Word}

-- the number of an external metric's type
abbrev pub type_text : MetricType → Word
type_text Type1 = codes "1"
type_text Type2 = codes "2"

-- ---- events

abbrev pub address_words : Option Addr → List Word
address_words None = []
address_words (Some address) = address_text address.0 ∷ []

abbrev pub both_words : Bool → List Word
both_words true = codes "both" ∷ []
both_words false = []

-- the words of an event in a study
abbrev pub event_words : Event → List Word
event_words (events.Cut router neighbor address) = codes "cut" ∷ address_text router.0 ∷ address_text neighbor.0 ∷ address_words address
event_words (events.Leave router prefix) = codes "cut" ∷ address_text router.0 ∷ prefix_text prefix ∷ []
event_words (events.SetCost router far metric both) = codes "set-cost" ∷ address_text router.0 ∷ address_text far.0 ∷ decimal metric ∷ both_words both
event_words (events.Drain router) = codes "drain" ∷ address_text router.0 ∷ []
event_words (events.Fail router) = codes "fail" ∷ address_text router.0 ∷ []

-- its line in a study: its words, joined by single spaces (32)
abbrev pub event_spelling : Event → List ℕ
event_spelling event = join_with_byte 32 (event_words event)

-- whether an edit is an event, which no line of a script means
abbrev pub is_event : Edit → Bool
is_event (of_event event) = true
is_event _ = false

-- ---- edits and commands

-- the words of an edit
abbrev pub edit_words : Edit → List Word
edit_words (Cost area router link metric) = codes "cost" ∷ address_text area.0 ∷ address_text router.0 ∷ decimal link ∷ decimal metric ∷ []
edit_words (DropLink area router link) = codes "drop-link" ∷ address_text area.0 ∷ address_text router.0 ∷ decimal link ∷ []
edit_words (FailLink area router neighbor) = codes "fail-link" ∷ address_text area.0 ∷ address_text router.0 ∷ address_text neighbor.0 ∷ []
edit_words (FailNet area network) = codes "fail-net" ∷ address_text area.0 ∷ address_text network.0 ∷ []
edit_words (FailRouter router) = codes "fail-router" ∷ address_text router.0 ∷ []
edit_words (AddStub area router prefix metric) = codes "add-stub" ∷ address_text area.0 ∷ address_text router.0 ∷ prefix_text prefix ∷ decimal metric ∷ []
edit_words (Summary area router prefix metric) = codes "summary" ∷ address_text area.0 ∷ address_text router.0 ∷ prefix_text prefix ∷ decimal metric ∷ []
edit_words (AddSummary area router prefix metric) = codes "add-summary" ∷ address_text area.0 ∷ address_text router.0 ∷ prefix_text prefix ∷ decimal metric ∷ []
edit_words (AddExternal router prefix type metric forward tag) =
    codes "add-external" ∷ address_text router.0 ∷ prefix_text prefix ∷ type_text type ∷ decimal metric ∷ address_text forward.0 ∷ decimal tag ∷ []
edit_words (DropExternal router prefix) = codes "drop-external" ∷ address_text router.0 ∷ prefix_text prefix ∷ []
edit_words Refresh = codes "refresh" ∷ []
edit_words (of_event event) = event_words event

-- the words of a command
abbrev pub command_words : Command → List Word
command_words (command.Edit edit) = edit_words edit
command_words (command.Undo count) = codes "undo" ∷ decimal count ∷ []
command_words (command.Redo count) = codes "redo" ∷ decimal count ∷ []
command_words (command.Table router) = codes "table" ∷ address_text router.0 ∷ []
command_words command.Tables = codes "tables" ∷ []
command_words (command.Compare router) = codes "compare" ∷ address_text router.0 ∷ []
command_words command.Info = codes "info" ∷ []

-- the line of an edit: its words, joined by single spaces (32)
abbrev pub spelling : Edit → List ℕ
spelling edit = join_with_byte 32 (edit_words edit)

-- the word of a branch
abbrev pub branch_word : ℕ → Word
branch_word branch = codes "@" ++ decimal branch

-- the words are those of the command in the branch, 0 to 7: the branch's word and the command's words; for branch 0 also the command's
-- words alone
abbrev pub Says : List Word → ℕ → Command → Type 0
Says words branch c = (branch < 8) × ((words ≡ branch_word branch ∷ command_words c) ⊎ ((branch ≡ 0) × (words ≡ command_words c)))

-- a prefix with an address of 32 bits
pub record IsPrefix (net : Net) : Type 0 where
  pub addr : net.addr.0 < 2 ^ 32
  pub prefix : IsNet net

-- an edit that a line of a script means: each number is within the range of its type, and it is no event
abbrev pub IsScripted : Edit → Type 0
IsScripted (Cost area router link metric) = (area.0 < 2 ^ 32) × (router.0 < 2 ^ 32) × (link < 2 ^ 16) × (metric < 2 ^ 16)
IsScripted (DropLink area router link) = (area.0 < 2 ^ 32) × (router.0 < 2 ^ 32) × (link < 2 ^ 16)
IsScripted (FailLink area router neighbor) = (area.0 < 2 ^ 32) × (router.0 < 2 ^ 32) × (neighbor.0 < 2 ^ 32)
IsScripted (FailNet area network) = (area.0 < 2 ^ 32) × (network.0 < 2 ^ 32)
IsScripted (FailRouter router) = router.0 < 2 ^ 32
IsScripted (AddStub area router prefix metric) = (area.0 < 2 ^ 32) × (router.0 < 2 ^ 32) × IsPrefix prefix × (metric < 2 ^ 16)
IsScripted (Summary area router prefix metric) = (area.0 < 2 ^ 32) × (router.0 < 2 ^ 32) × IsPrefix prefix × (metric < 2 ^ 24)
IsScripted (AddSummary area router prefix metric) = (area.0 < 2 ^ 32) × (router.0 < 2 ^ 32) × IsPrefix prefix × (metric < 2 ^ 24)
IsScripted (AddExternal router prefix type metric forward tag) = (router.0 < 2 ^ 32) × IsPrefix prefix × (metric < 2 ^ 24) × (forward.0 < 2 ^ 32) × (tag < 2 ^ 32)
IsScripted (DropExternal router prefix) = (router.0 < 2 ^ 32) × IsPrefix prefix
IsScripted Refresh = Unit
IsScripted (of_event event) = ⊥

-- the same of an edit that is no event
abbrev pub IsScriptedUnlessEvent : Edit → Type 0
IsScriptedUnlessEvent edit = is_event edit ≡ false → IsScripted edit

-- each number of a command is within the range of its type
abbrev pub IsInRange : Command → Type 0
IsInRange (command.Edit edit) = IsScripted edit
IsInRange (command.Undo count) = count < 2 ^ 32
IsInRange (command.Redo count) = count < 2 ^ 32
IsInRange (command.Table router) = router.0 < 2 ^ 32
IsInRange command.Tables = Unit
IsInRange (command.Compare router) = router.0 < 2 ^ 32
IsInRange command.Info = Unit
