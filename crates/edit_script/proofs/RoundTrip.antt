-- The line of an edit is read back.
use Rattle.std.proofs.Common.{◌≡◌, ℕ, List, ◌<◌, ◌∷◌, Ok, refl, ap, ◌∙◌, arith, inl, inr}
use Rattle.std.specs.Prelude.{codes}
use Rattle.std.proofs.lemmas.List.Elements.{All-from_recursion}
use Rattle.std.specs.List.{AllByRecursion}
use Rattle.edit_script.specs.declared.edit.Edit.{Edit}
use Rattle.edit_script.specs.declared.edit.Edit.TheVariants.{Cost, DropLink, FailLink, FailNet, FailRouter, AddStub, Summary, AddSummary, AddExternal}
use Rattle.edit_script.specs.declared.edit.Edit.TheVariants.{DropExternal, Refresh, Event as of_event}
use Rattle.edit_script.specs.declared.event.Event.TheVariants as events
use Rattle.edit_script.specs.declared.edit.MetricType.{MetricType}
use Rattle.edit_script.specs.declared.edit.MetricType.TheVariants.{Type1, Type2}
use Rattle.edit_script.specs.declared.command.Command.{Command}
use Rattle.edit_script.specs.declared.command.Command.TheVariants as command
use Rattle.text_words.specs.declared.blanks.Blanks.TheVariants.{InLine}
use Rattle.text_words.specs.Words.{IsWord}
use Rattle.text_words.proofs.NumberLemmas.{number_again}
use Rattle.text_words.proofs.AddressLemmas.{address_again}
use Rattle.text_words.proofs.WordLemmas.{words_joined, literal_word, decimal_word, address_word}
use Rattle.edit_script.specs.Words.{Word, words}
use Rattle.edit_script.specs.Reading.{metric_type, edit_of, cost_of, drop_link_of, fail_link_of, fail_net_of, fail_router_of, add_stub_of, summary_of}
use Rattle.edit_script.specs.Reading.{add_summary_of, add_external_of, drop_external_of, refresh_of, route_edit_of, command_of, count_of, router_of}
use Rattle.edit_script.specs.Line.{meaning, meaning_of_words, after_branch}
use Rattle.edit_script.specs.Spelling.{spelling, type_text, edit_words, command_words, branch_word, Says, IsScripted, IsInRange}
use Rattle.edit_script.proofs.Prefixes.{prefix_again, prefix_word}

type_word : (type : MetricType) → IsWord InLine (type_text type)
type_word Type1 = literal_word InLine (codes "1") refl (omega arith)
type_word Type2 = literal_word InLine (codes "2") refl (omega arith)

are_words : (edit : Edit) → IsScripted edit → AllByRecursion (IsWord InLine) (edit_words edit)
are_words (Cost area router link metric) h = (
  literal_word InLine (codes "cost") refl (omega arith),
  (
    address_word InLine area.0,
    (address_word InLine router.0, (decimal_word InLine link (omega arith), (decimal_word InLine metric (omega arith), tt))),
  ),
)
are_words (DropLink area router link) h =
    (literal_word InLine (codes "drop-link") refl (omega arith), (address_word InLine area.0, (address_word InLine router.0, (decimal_word InLine link (omega arith), tt))))
are_words (FailLink area router neighbor) h =
    (literal_word InLine (codes "fail-link") refl (omega arith), (address_word InLine area.0, (address_word InLine router.0, (address_word InLine neighbor.0, tt))))
are_words (FailNet area network) h =
    (literal_word InLine (codes "fail-net") refl (omega arith), (address_word InLine area.0, (address_word InLine network.0, tt)))
are_words (FailRouter router) h =
    (literal_word InLine (codes "fail-router") refl (omega arith), (address_word InLine router.0, tt))
are_words (AddStub area router prefix metric) h = (
  literal_word InLine (codes "add-stub") refl (omega arith),
  (
    address_word InLine area.0,
    (address_word InLine router.0, (prefix_word prefix h.2, (decimal_word InLine metric (omega arith), tt))),
  ),
)
are_words (Summary area router prefix metric) h = (
  literal_word InLine (codes "summary") refl (omega arith),
  (
    address_word InLine area.0,
    (address_word InLine router.0, (prefix_word prefix h.2, (decimal_word InLine metric (omega arith), tt))),
  ),
)
are_words (AddSummary area router prefix metric) h = (
  literal_word InLine (codes "add-summary") refl (omega arith),
  (address_word InLine area.0, (address_word InLine router.0, (prefix_word prefix h.2, (decimal_word InLine metric (omega arith), tt)))),
)
are_words (AddExternal router prefix type metric forward tag) h = (
  literal_word InLine (codes "add-external") refl (omega arith),
  (
    address_word InLine router.0,
    (
      prefix_word prefix h.1,
      (type_word type, (decimal_word InLine metric (omega arith), (address_word InLine forward.0, (decimal_word InLine tag (omega arith), tt)))),
    ),
  ),
)
are_words (DropExternal router prefix) h =
    (literal_word InLine (codes "drop-external") refl (omega arith), (address_word InLine router.0, (prefix_word prefix h.1, tt)))
are_words Refresh h = (literal_word InLine (codes "refresh") refl (omega arith), tt)
are_words (of_event event) h = absurd h

-- the words of the line of an edit are the words of the edit
words_again : (edit : Edit) → IsScripted edit → words (spelling edit) ≡ edit_words edit
words_again edit h = words_joined InLine 32 (edit_words edit) refl (All-from_recursion (IsWord InLine) (edit_words edit) (are_words edit h))

type_again : (type : MetricType) → metric_type (type_text type) ≡ Ok type
type_again Type1 = refl
type_again Type2 = refl

-- the words of an edit are read back
edit_again : (edit : Edit) → IsScripted edit → (branch : ℕ) → after_branch branch (edit_words edit) ≡ Ok (branch, command.Edit edit)
unfolding after_branch command_of edit_of route_edit_of cost_of drop_link_of fail_link_of fail_net_of fail_router_of
    add_stub_of summary_of add_summary_of add_external_of drop_external_of refresh_of router_of
edit_again (Cost area router link metric) h branch =
    simp (
      address_again area.0 h.0,
      address_again router.0 h.1,
      number_again 65535 link (omega arith) (omega arith),
      number_again 65535 metric
          (omega arith) (omega arith),
    )
edit_again (DropLink area router link) h branch =
    simp (address_again area.0 h.0, address_again router.0 h.1, number_again 65535 link (omega arith) (omega arith))
edit_again (FailLink area router neighbor) h branch =
    simp (address_again area.0 h.0, address_again router.0 h.1, address_again neighbor.0 h.2)
edit_again (FailNet area network) h branch =
    simp (address_again area.0 h.0, address_again network.0 h.1)
edit_again (FailRouter router) h branch =
    simp (address_again router.0 h)
edit_again (AddStub area router prefix metric) h branch =
    simp (address_again area.0 h.0, address_again router.0 h.1, prefix_again prefix h.2, number_again 65535 metric (omega arith) (omega arith))
edit_again (Summary area router prefix metric) h branch =
    simp (address_again area.0 h.0, address_again router.0 h.1, prefix_again prefix h.2, number_again 16777215 metric (omega arith) (omega arith))
edit_again (AddSummary area router prefix metric) h branch =
    simp (address_again area.0 h.0, address_again router.0 h.1, prefix_again prefix h.2, number_again 16777215 metric (omega arith) (omega arith))
edit_again (AddExternal router prefix type metric forward tag) h branch =
    simp (
      address_again router.0 h.0,
      prefix_again prefix h.1,
      type_again type,
      number_again 16777215 metric (omega arith)
          (omega arith),
      address_again forward.0 h.3,
      number_again 4294967295 tag (omega arith) (omega arith),
    )
edit_again (DropExternal router prefix) h branch =
    simp (address_again router.0 h.0, prefix_again prefix h.1)
edit_again Refresh h branch = refl
edit_again (of_event event) h branch = absurd h

-- the words of a command are read back
read_again : (c : Command) → IsInRange c → (branch : ℕ) → after_branch branch (command_words c) ≡ Ok (branch, c)
unfolding after_branch command_of count_of router_of
read_again (command.Edit edit) h branch = edit_again edit h branch
read_again (command.Undo count) h branch = simp (number_again 4294967295 count (omega arith) (omega arith))
read_again (command.Redo count) h branch = simp (number_again 4294967295 count (omega arith) (omega arith))
read_again (command.Table router) h branch = simp (address_again router.0 h)
read_again command.Tables h branch = refl
read_again (command.Compare router) h branch = simp (address_again router.0 h)
read_again command.Info h branch = refl

-- no command word begins with `#` or `@`
without_branch : (c : Command) → meaning_of_words (command_words c) ≡ after_branch 0 (command_words c)
unfolding meaning_of_words after_branch
without_branch (command.Edit (Cost area router link metric)) = refl
without_branch (command.Edit (DropLink area router link)) = refl
without_branch (command.Edit (FailLink area router neighbor)) = refl
without_branch (command.Edit (FailNet area network)) = refl
without_branch (command.Edit (FailRouter router)) = refl
without_branch (command.Edit (AddStub area router prefix metric)) = refl
without_branch (command.Edit (Summary area router prefix metric)) = refl
without_branch (command.Edit (AddSummary area router prefix metric)) = refl
without_branch (command.Edit (AddExternal router prefix type metric forward tag)) = refl
without_branch (command.Edit (DropExternal router prefix)) = refl
without_branch (command.Edit Refresh) = refl
without_branch (command.Edit (of_event (events.Cut router neighbor address))) = refl
without_branch (command.Edit (of_event (events.Leave router prefix))) = refl
without_branch (command.Edit (of_event (events.SetCost router far metric both))) = refl
without_branch (command.Edit (of_event (events.Drain router))) = refl
without_branch (command.Edit (of_event (events.Fail router))) = refl
without_branch (command.Undo count) = refl
without_branch (command.Redo count) = refl
without_branch (command.Table router) = refl
without_branch command.Tables = refl
without_branch (command.Compare router) = refl
without_branch command.Info = refl

with_branch : (branch : ℕ) (c : Command) → branch < 8
    → meaning_of_words (branch_word branch ∷ command_words c) ≡ after_branch branch (command_words c)
unfolding meaning_of_words
with_branch branch c small = simp (number_again 7 branch (omega arith) (omega arith))

-- the words of a command mean it
pub means : (words : List Word) (branch : ℕ) (c : Command) → IsInRange c → Says words branch c → meaning_of_words words ≡ Ok (branch, c)
means words branch c h says =
    elim says.1 [
      | inl named ↦ rw named (with_branch branch c says.0 ∙ read_again c h branch)
      | inr bare ↦ rw (bare.0, bare.1) (without_branch c ∙ read_again c h 0)
    ]

pub reads_back : (edit : Edit) → IsScripted edit → meaning (spelling edit) ≡ Ok (0, command.Edit edit)
reads_back edit h = ap meaning_of_words (words_again edit h) ∙ means (edit_words edit) 0 (command.Edit edit) h (omega arith, inr (refl, refl))
