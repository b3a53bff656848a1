-- What a command word and its arguments mean: a command, or their first fault.
use Rattle.std.specs.Prelude.{◌≡◌, ℕ, nat_lt, List, [], ◌∷◌, length, Result, Ok, Err, if◌then◌else◌, ok_or, codes, bytes_eq}
use Rattle.lsa_codec.specs.declared.address.Addr.{Addr}
use Rattle.lsa_codec.specs.declared.address.AreaId.{AreaId}
use Rattle.lsa_codec.specs.declared.address.RouterId.{RouterId}
use Rattle.lsa_codec.specs.Views.{ls_infinity}
use Rattle.lsa_codec.specs.Prefix.{Net}
use Rattle.edit_script.specs.declared.edit.Edit.{Edit}
use Rattle.edit_script.specs.declared.edit.Edit.TheVariants.{Cost, DropLink, FailLink, FailNet, FailRouter, AddStub, Summary, AddSummary, AddExternal, DropExternal, Refresh}
use Rattle.edit_script.specs.declared.edit.MetricType.{MetricType}
use Rattle.edit_script.specs.declared.edit.MetricType.TheVariants.{Type1, Type2}
use Rattle.edit_script.specs.declared.command.Command.{Command}
use Rattle.edit_script.specs.declared.command.Command.TheVariants as command
use Rattle.edit_script.specs.declared.fault.ScriptFault.{ScriptFault}
use Rattle.edit_script.specs.declared.fault.ScriptFault.TheVariants.{UnknownWord, MissingWord, ExtraWord, BadNumber, BadAddress, BadPrefix}
use Rattle.edit_script.specs.Words.{Word}
use Rattle.text_words.specs.Numbers.{number_up_to}
use Rattle.text_words.specs.Addresses.{address_of}
use Rattle.edit_script.specs.Arguments.{prefix_of}

infixl 10 ◌>>=◌
abbrev pub ◌>>=◌ : {A B : Type 0} → Result A ScriptFault → (A → Result B ScriptFault) → Result B ScriptFault
(Ok x) >>= f = f x
(Err fault) >>= f = Err fault

-- what is made of what is read
abbrev pub made : {A B : Type 0} → (A → B) → Result A ScriptFault → Result B ScriptFault
made make read = read >>= λ x. Ok (make x)

-- a function's result, by its view, is what the definition gives
abbrev pub Gives : {X Y : Type 0} → (X → Y) → Result X ScriptFault → Result Y ScriptFault → Type 0
Gives view (Ok x) given = given ≡ Ok (view x)
Gives view (Err fault) given = given ≡ Err fault

-- ---- one argument

-- how the word of an argument is read
abbrev pub Reads : Type 0 → Type 0
Reads A = Word → Result A ScriptFault

abbrev pub number : ℕ → Reads ℕ
number max word = ok_or (number_up_to max word) BadNumber

-- the greatest number of 16 bits, for the number of a link and its metric (RFC 2328, A.4.2)
abbrev pub greatest_number16 : ℕ
greatest_number16 = 65535

abbrev pub number16 : Reads ℕ
number16 = number greatest_number16

abbrev pub metric24 : Reads ℕ
metric24 = number ls_infinity

abbrev pub number32 : Reads ℕ
number32 = number 4294967295

abbrev pub address : Reads ℕ
address word = ok_or (address_of word) BadAddress

abbrev pub area_id : Reads AreaId
area_id word = do
  area ← address word
  Ok (record { 0 = area })

abbrev pub router_id : Reads RouterId
router_id word = do
  router ← address word
  Ok (record { 0 = router })

abbrev pub addr : Reads Addr
addr word = do
  addr ← address word
  Ok (record { 0 = addr })

abbrev pub prefix : Reads Net
prefix word = ok_or (prefix_of word) BadPrefix

-- the type of an external metric
abbrev pub metric_type : Reads MetricType
metric_type word =
    if bytes_eq word (codes "1") then Ok Type1
    else if bytes_eq word (codes "2") then Ok Type2
    else Err BadNumber

-- ---- a given number of arguments

-- the fault where the number of arguments is not n
abbrev pub miscount : ℕ → List Word → ScriptFault
miscount n arguments = if nat_lt (length arguments) n then MissingWord else ExtraWord

abbrev pub none_of : List Word → Result (Unit {0}) ScriptFault
none_of [] = Ok tt
none_of arguments = Err (miscount 0 arguments)

abbrev pub one_of : List Word → Result Word ScriptFault
one_of (a ∷ []) = Ok a
one_of arguments = Err (miscount 1 arguments)

abbrev pub two_of : List Word → Result (Word × Word) ScriptFault
two_of (a ∷ b ∷ []) = Ok (a, b)
two_of arguments = Err (miscount 2 arguments)

abbrev pub three_of : List Word → Result (Word × Word × Word) ScriptFault
three_of (a ∷ b ∷ c ∷ []) = Ok (a, b, c)
three_of arguments = Err (miscount 3 arguments)

abbrev pub four_of : List Word → Result (Word × Word × Word × Word) ScriptFault
four_of (a ∷ b ∷ c ∷ d ∷ []) = Ok (a, b, c, d)
four_of arguments = Err (miscount 4 arguments)

abbrev pub six_of : List Word → Result (Word × Word × Word × Word × Word × Word) ScriptFault
six_of (a ∷ b ∷ c ∷ d ∷ e ∷ f ∷ []) = Ok (a, b, c, d, e, f)
six_of arguments = Err (miscount 6 arguments)

-- ---- arguments, each read as what it is, from left to right

abbrev pub one_as : {A : Type 0} → Reads A → List Word → Result A ScriptFault
one_as only arguments = one_of arguments >>= only

abbrev pub two_as : {A B : Type 0} → Reads A → Reads B → List Word → Result (A × B) ScriptFault
two_as first second arguments = do
  word ← two_of arguments
  a ← first word.0
  b ← second word.1
  Ok (a, b)

abbrev pub three_as : {A B C : Type 0} → Reads A → Reads B → Reads C → List Word → Result (A × B × C) ScriptFault
three_as first second third arguments = do
  word ← three_of arguments
  a ← first word.0
  b ← second word.1
  c ← third word.2
  Ok (a, b, c)

abbrev pub four_as : {A B C D : Type 0} → Reads A → Reads B → Reads C → Reads D → List Word → Result (A × B × C × D) ScriptFault
four_as first second third fourth arguments = do
  word ← four_of arguments
  a ← first word.0
  b ← second word.1
  c ← third word.2
  d ← fourth word.3
  Ok (a, b, c, d)

abbrev pub six_as : {A B C D E F : Type 0} → Reads A → Reads B → Reads C → Reads D → Reads E → Reads F → List Word → Result (A × B × C × D × E × F) ScriptFault
six_as first second third fourth fifth sixth arguments = do
  word ← six_of arguments
  a ← first word.0
  b ← second word.1
  c ← third word.2
  d ← fourth word.3
  e ← fifth word.4
  f ← sixth word.5
  Ok (a, b, c, d, e, f)

-- COUNT
unfoldable pub count_of : List Word → Result ℕ ScriptFault
count_of = one_as number32

-- ROUTER
unfoldable pub router_of : List Word → Result RouterId ScriptFault
router_of = one_as router_id

-- ---- the edits, by their arguments

-- cost AREA ROUTER LINK METRIC
unfoldable pub cost_of : List Word → Result Edit ScriptFault
cost_of arguments = do
  x ← four_as area_id router_id number16 number16 arguments
  Ok (Cost x.0 x.1 x.2 x.3)

-- drop-link AREA ROUTER LINK
unfoldable pub drop_link_of : List Word → Result Edit ScriptFault
drop_link_of arguments = do
  x ← three_as area_id router_id number16 arguments
  Ok (DropLink x.0 x.1 x.2)

-- fail-link AREA ROUTER NEIGHBOR
unfoldable pub fail_link_of : List Word → Result Edit ScriptFault
fail_link_of arguments = do
  x ← three_as area_id router_id router_id arguments
  Ok (FailLink x.0 x.1 x.2)

-- fail-net AREA ADDRESS
unfoldable pub fail_net_of : List Word → Result Edit ScriptFault
fail_net_of arguments = do
  x ← two_as area_id addr arguments
  Ok (FailNet x.0 x.1)

-- fail-router ROUTER
unfoldable pub fail_router_of : List Word → Result Edit ScriptFault
fail_router_of arguments = made FailRouter (router_of arguments)

-- add-stub AREA ROUTER PREFIX METRIC
unfoldable pub add_stub_of : List Word → Result Edit ScriptFault
add_stub_of arguments = do
  x ← four_as area_id router_id prefix number16 arguments
  Ok (AddStub x.0 x.1 x.2 x.3)

-- summary AREA ROUTER PREFIX METRIC
unfoldable pub summary_of : List Word → Result Edit ScriptFault
summary_of arguments = do
  x ← four_as area_id router_id prefix metric24 arguments
  Ok (Summary x.0 x.1 x.2 x.3)

-- add-summary AREA ROUTER PREFIX METRIC
unfoldable pub add_summary_of : List Word → Result Edit ScriptFault
add_summary_of arguments = do
  x ← four_as area_id router_id prefix metric24 arguments
  Ok (AddSummary x.0 x.1 x.2 x.3)

-- add-external ROUTER PREFIX TYPE METRIC FORWARD TAG
unfoldable pub add_external_of : List Word → Result Edit ScriptFault
add_external_of arguments = do
  x ← six_as router_id prefix metric_type metric24 addr number32 arguments
  Ok (AddExternal x.0 x.1 x.2 x.3 x.4 x.5)

-- drop-external ROUTER PREFIX
unfoldable pub drop_external_of : List Word → Result Edit ScriptFault
drop_external_of arguments = do
  x ← two_as router_id prefix arguments
  Ok (DropExternal x.0 x.1)

-- refresh
unfoldable pub refresh_of : List Word → Result Edit ScriptFault
refresh_of arguments = made (λ _. Refresh) (none_of arguments)

-- the command word of an edit of summary-LSAs or AS-external-LSAs, and its arguments
unfoldable pub route_edit_of : Word → List Word → Result Edit ScriptFault
route_edit_of word arguments =
    if bytes_eq word (codes "summary") then summary_of arguments
    else if bytes_eq word (codes "add-summary") then add_summary_of arguments
    else if bytes_eq word (codes "add-external") then add_external_of arguments
    else if bytes_eq word (codes "drop-external") then drop_external_of arguments
    else if bytes_eq word (codes "refresh") then refresh_of arguments
    else Err UnknownWord

-- the command word of an edit, and its arguments
unfoldable pub edit_of : Word → List Word → Result Edit ScriptFault
edit_of word arguments =
    if bytes_eq word (codes "cost") then cost_of arguments
    else if bytes_eq word (codes "drop-link") then drop_link_of arguments
    else if bytes_eq word (codes "fail-link") then fail_link_of arguments
    else if bytes_eq word (codes "fail-net") then fail_net_of arguments
    else if bytes_eq word (codes "fail-router") then fail_router_of arguments
    else if bytes_eq word (codes "add-stub") then add_stub_of arguments
    else route_edit_of word arguments

-- ---- the commands

-- a command word, and its arguments: undo COUNT, redo COUNT, table ROUTER, tables, compare ROUTER, info, or an edit
unfoldable pub command_of : Word → List Word → Result Command ScriptFault
command_of word arguments =
    if bytes_eq word (codes "undo") then made command.Undo (count_of arguments)
    else if bytes_eq word (codes "redo") then made command.Redo (count_of arguments)
    else if bytes_eq word (codes "table") then made command.Table (router_of arguments)
    else if bytes_eq word (codes "tables") then made (λ _. command.Tables) (none_of arguments)
    else if bytes_eq word (codes "compare") then made command.Compare (router_of arguments)
    else if bytes_eq word (codes "info") then made (λ _. command.Info) (none_of arguments)
    else made command.Edit (edit_of word arguments)
