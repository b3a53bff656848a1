-- Words that mean a command are that command's words, after its branch, and its numbers are in range.
use Rattle.std.proofs.Common.{◌≡◌, ℕ, ◌^◌, ◌<◌, true, cond, eqb, List, [], ◌∷◌, get_or, Result, Ok, refl, sym, ap, ◌∙◌, subst, arith, inl, inr}
use Rattle.std.specs.Prelude.{codes, decimal, bytes_eq}
use Rattle.std.proofs.lemmas.Slice.Eq.{bytes_eq-Decides}
use Rattle.std.proofs.lemmas.Bool.{cases_Bool, cond-true, cond-false, eqb-true}
use Rattle.lsa_codec.specs.declared.address.RouterId.{RouterId}
use Rattle.lsa_codec.specs.Spelling.{address_text}
use Rattle.edit_script.specs.declared.edit.Edit.{Edit}
use Rattle.edit_script.specs.declared.command.Command.{Command}
use Rattle.edit_script.specs.declared.command.Command.TheVariants as command
use Rattle.edit_script.specs.declared.fault.ScriptFault.{ScriptFault}
use Rattle.edit_script.specs.declared.fault.ScriptFault.TheVariants.{BadBranch}
use Rattle.edit_script.specs.Words.{Word}
use Rattle.text_words.specs.Numbers.{number_up_to}
use Rattle.edit_script.specs.Reading.{◌>>=◌, made, edit_of, route_edit_of, none_of, count_of, router_of, command_of}
use Rattle.edit_script.specs.Reading.{cost_of, drop_link_of, fail_link_of, fail_net_of, fail_router_of, add_stub_of, summary_of, add_summary_of}
use Rattle.edit_script.specs.Reading.{add_external_of, drop_external_of, refresh_of}
use Rattle.edit_script.specs.Line.{branch_of, in_branch, after_branch, meaning_of_words}
use Rattle.edit_script.specs.Spelling.{command_words, branch_word, Says}
use Rattle.edit_script.specs.Spelling.{IsInRange, edit_words, IsScripted}
use Rattle.text_words.proofs.NumberLemmas.{number_spelled}
use Rattle.edit_script.proofs.SpelledArguments.{IsOf, of_spelled, none_are, two_read, three_read, four_read, six_read, count_read, router_read}
use Rattle.edit_script.proofs.OneArgument.{then_ok, same_ok, of_ok, areas, routers, addrs, prefixes, types, numbers16, metrics24, numbers32}

-- ---- the commands

-- words that are an edit's, whose numbers are in range
abbrev IsEdit : List Word → Edit → Type 0
IsEdit = IsOf edit_words IsScripted

-- words that are a command's, whose numbers are in range
abbrev IsCommand : List Word → Command → Type 0
IsCommand = IsOf command_words IsInRange

counted : (name : Word) (make : ℕ → Command) (arguments : List Word) (c : Command) → ((n : ℕ) → n < 2 ^ 32 → IsInRange (make n))
    → ((n : ℕ) → command_words (make n) ≡ name ∷ decimal n ∷ []) → made make (count_of arguments) ≡ Ok c → IsCommand (name ∷ arguments) c
counted name make arguments c range =
    of_spelled name make (λ (n : ℕ). decimal n ∷ []) (count_of arguments) arguments c
    (λ n h. let read = count_read arguments n h in (read.0, range n read.1))

of_router : (name : Word) (make : RouterId → Command) (arguments : List Word) (c : Command) → ((r : RouterId) → r.0 < 2 ^ 32 → IsInRange (make r))
    → ((r : RouterId) → command_words (make r) ≡ name ∷ address_text r.0 ∷ []) → made make (router_of arguments) ≡ Ok c → IsCommand (name ∷ arguments) c
of_router name make arguments c range =
    of_spelled name make (λ (r : RouterId). address_text r.0 ∷ []) (router_of arguments) arguments c
    (λ r h. let read = router_read arguments r h in (read.0, range r read.1))

alone : (name : Word) (d : Command) (arguments : List Word) (c : Command) → IsInRange d → command_words d ≡ name ∷ []
    → made (λ (x : Unit {0}). d) (none_of arguments) ≡ Ok c → IsCommand (name ∷ arguments) c
alone name d arguments c range words =
    of_spelled name (λ (x : Unit {0}). d) (λ (x : Unit {0}). []) (none_of arguments) arguments c
    (λ x h. (none_are arguments x h, range)) (λ x. words)

edit_read : (words : List Word) (given : Result Edit ScriptFault) (c : Command) → ((edit : Edit) → given ≡ Ok edit → IsEdit words edit)
    → made command.Edit given ≡ Ok c → IsCommand words c
edit_read words given c spelled h =
    let found = then_ok given _ c h in
    let same : command.Edit found.0 ≡ c = same_ok _ c found.1.1 in
    let read = spelled found.0 found.1.0 in
    subst (IsCommand words) same (record { words = read.words; range = read.range })

-- where the command word is `name`, what it reads; otherwise what the other names read
by_name : {A : Type 0} (Is : List Word → A → Type 0) (name word : Word) (arguments : List Word) (this others : Result A ScriptFault) (x : A)
    → cond (bytes_eq word name) this others ≡ Ok x → (this ≡ Ok x → Is (name ∷ arguments) x) → (others ≡ Ok x → Is (word ∷ arguments) x)
    → Is (word ∷ arguments) x
by_name Is name word arguments this others x h at_name at_other =
    elim (cases_Bool (bytes_eq word name)) [
      | inl holds ↦
          let same : word ≡ name = (bytes_eq-Decides word name).0 holds in
          subst (λ (w : Word). Is (w ∷ arguments) x) (sym same) (at_name (sym (cond-true _ this others holds) ∙ h))
      | inr fails ↦ at_other (sym (cond-false _ this others fails) ∙ h)
    ]

route_edit_read : (word : Word) (arguments : List Word) (edit : Edit) → route_edit_of word arguments ≡ Ok edit → IsEdit (word ∷ arguments) edit
unfolding route_edit_of summary_of add_summary_of add_external_of drop_external_of refresh_of
route_edit_read word arguments edit h =
    by_name IsEdit (codes "summary") word arguments _ _ edit h
    (of_spelled (codes "summary") _ _ _ arguments edit (four_read areas routers prefixes metrics24 arguments) (λ x. refl)) λ h.
    by_name IsEdit (codes "add-summary") word arguments _ _ edit h
    (of_spelled (codes "add-summary") _ _ _ arguments edit (four_read areas routers prefixes metrics24 arguments) (λ x. refl)) λ h.
    by_name IsEdit (codes "add-external") word arguments _ _ edit h
    (of_spelled (codes "add-external") _ _ _ arguments edit
    (λ x is. let read = six_read routers prefixes types metrics24 addrs numbers32 arguments x is in
    (read.0, (read.1.0, read.1.1, read.1.3, read.1.4, read.1.5))) (λ x. refl)) λ h.
    by_name IsEdit (codes "drop-external") word arguments _ _ edit h
    (of_spelled (codes "drop-external") _ _ _ arguments edit (two_read routers prefixes arguments) (λ x. refl)) λ h.
    by_name IsEdit (codes "refresh") word arguments _ _ edit h
    (of_spelled (codes "refresh") _ _ _ arguments edit (λ x is. (none_are arguments x is, tt)) (λ x. refl)) λ h.
    absurd cc

edit_word_read : (word : Word) (arguments : List Word) (edit : Edit) → edit_of word arguments ≡ Ok edit → IsEdit (word ∷ arguments) edit
unfolding edit_of cost_of drop_link_of fail_link_of fail_net_of fail_router_of add_stub_of
edit_word_read word arguments edit h =
    by_name IsEdit (codes "cost") word arguments _ _ edit h
    (of_spelled (codes "cost") _ _ _ arguments edit (four_read areas routers numbers16 numbers16 arguments) (λ x. refl)) λ h.
    by_name IsEdit (codes "drop-link") word arguments _ _ edit h
    (of_spelled (codes "drop-link") _ _ _ arguments edit (three_read areas routers numbers16 arguments) (λ x. refl)) λ h.
    by_name IsEdit (codes "fail-link") word arguments _ _ edit h
    (of_spelled (codes "fail-link") _ _ _ arguments edit (three_read areas routers routers arguments) (λ x. refl)) λ h.
    by_name IsEdit (codes "fail-net") word arguments _ _ edit h
    (of_spelled (codes "fail-net") _ _ _ arguments edit (two_read areas addrs arguments) (λ x. refl)) λ h.
    by_name IsEdit (codes "fail-router") word arguments _ _ edit h
    (of_spelled (codes "fail-router") _ _ _ arguments edit (router_read arguments) (λ x. refl)) λ h.
    by_name IsEdit (codes "add-stub") word arguments _ _ edit h
    (of_spelled (codes "add-stub") _ _ _ arguments edit (four_read areas routers prefixes numbers16 arguments) (λ x. refl)) λ h.
    route_edit_read word arguments edit h

command_read : (word : Word) (arguments : List Word) (c : Command) → command_of word arguments ≡ Ok c → IsCommand (word ∷ arguments) c
unfolding command_of
command_read word arguments c h =
    by_name IsCommand (codes "undo") word arguments _ _ c h (counted (codes "undo") command.Undo arguments c (λ n small. small) (λ n. refl)) λ h.
    by_name IsCommand (codes "redo") word arguments _ _ c h (counted (codes "redo") command.Redo arguments c (λ n small. small) (λ n. refl)) λ h.
    by_name IsCommand (codes "table") word arguments _ _ c h (of_router (codes "table") command.Table arguments c (λ r small. small) (λ r. refl)) λ h.
    by_name IsCommand (codes "tables") word arguments _ _ c h (alone (codes "tables") command.Tables arguments c tt refl) λ h.
    by_name IsCommand (codes "compare") word arguments _ _ c h
    (of_router (codes "compare") command.Compare arguments c (λ r small. small) (λ r. refl)) λ h.
    by_name IsCommand (codes "info") word arguments _ _ c h (alone (codes "info") command.Info arguments c tt refl) λ h.
    edit_read (word ∷ arguments) (edit_of word arguments) c (edit_word_read word arguments) h

-- ---- the line

abbrev done : Command → Result Command ScriptFault
done c = Ok c

in_branch_read : (branch b : ℕ) (given : Result Command ScriptFault) (c : Command) → in_branch branch given ≡ Ok (b, c)
    → (given ≡ Ok c) × (branch ≡ b)
in_branch_read branch b given c h =
    let found = then_ok given _ (b, c) h in
    let same : (branch, found.0) ≡ (b, c) = let e = found.1.1 in cc in
    (found.1.0 ∙ ap (λ (x : ℕ × Command). done x.1) same, ap (λ (x : ℕ × Command). x.0) same)

branch_is : (word : Word) (branch : ℕ) → eqb (get_or word 0 0) 64 ≡ true → branch_of word ≡ Ok branch → (word ≡ branch_word branch) × (branch < 8)
branch_is [] branch at h = absurd cc
branch_is (first ∷ digit) branch at h =
    let number = number_spelled 7 digit branch (omega arith) (of_ok (number_up_to 7 digit) BadBranch branch h) in
    let same : first ≡ 64 = eqb-true first 64 at in
    (rw (same, number.0) refl, omega (arith, number.1))

after_branch_read : (branch b : ℕ) (words : List Word) (c : Command) → after_branch branch words ≡ Ok (b, c) → IsCommand words c × (branch ≡ b)
unfolding after_branch
after_branch_read branch b [] c h = absurd cc
after_branch_read branch b (word ∷ arguments) c h =
    let read = in_branch_read branch b (command_of word arguments) c h in
    (command_read word arguments c read.0, read.1)

said_by : (first : Word) (rest : List Word) (branch : ℕ) (c : Command)
    → cond (eqb (get_or first 0 0) 64) (branch_of first >>= (λ b. after_branch b rest)) (in_branch 0 (command_of first rest)) ≡ Ok (branch, c)
    → IsInRange c × Says (first ∷ rest) branch c
said_by first rest branch c h =
    elim (cases_Bool (eqb (get_or first 0 0) 64)) [
      | inl named ↦
          let found = then_ok (branch_of first) _ (branch, c) (sym (cond-true _ _ _ named) ∙ h) in
          let name = branch_is first found.0 named found.1.0 in
          let read = after_branch_read found.0 branch rest c found.1.1 in
          let same : first ≡ branch_word branch = name.0 ∙ ap branch_word read.1 in
          (read.0.range, (omega (arith, name.1, read.1), inl (rw (same, read.0.words) refl)))
      | inr bare ↦
          let found = in_branch_read 0 branch (command_of first rest) c (sym (cond-false _ _ _ bare) ∙ h) in
          let read = command_read first rest c found.0 in
          (read.range, (omega (arith, found.1), inr (sym found.1, read.words)))
    ]

-- words that mean a command are its words, and its numbers are in range
pub said : (words : List Word) (branch : ℕ) (c : Command) → meaning_of_words words ≡ Ok (branch, c) → IsInRange c × Says words branch c
unfolding meaning_of_words
said [] branch c h = absurd cc
said (first ∷ rest) branch c h =
    elim (cases_Bool (eqb (get_or first 0 0) 35)) [
      | inl comment ↦ absurd (let e = sym (cond-true _ _ _ comment) ∙ h in cc)
      | inr other ↦ said_by first rest branch c (sym (cond-false _ _ _ other) ∙ h)
    ]
