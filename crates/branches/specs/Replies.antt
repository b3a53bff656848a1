-- The reply to a command, and the session after it; the texts of answers.
use Rattle.std.specs.Prelude.{ℕ, nat_le, if◌then◌else◌, List, [], ◌++◌, length, flat_map, filter_map, option_to_list, Option, None, Some, Result, Ok, Err, codes, decimal, Bool, true, false}
use Rattle.lsa_codec.specs.declared.address.RouterId.{RouterId}
use Rattle.lsdb.specs.Lists.{Lists}
use Rattle.edit_script.specs.declared.command.Command.{Command}
use Rattle.edit_script.specs.declared.command.Command.TheVariants as command
use Rattle.edit_script.specs.declared.fault.ScriptFault.{ScriptFault}
use Rattle.edit_script.specs.Fault.{texts_of as script_texts}
use Rattle.edit_history.specs.declared.fault.EditFault.{EditFault}
use Rattle.edit_history.specs.declared.fault.UndoFault.TheVariants.{NothingToUndo}
use Rattle.edit_history.specs.declared.fault.RedoFault.TheVariants.{NothingToRedo}
use Rattle.edit_history.specs.Fault.{texts_of as edit_texts}
use Rattle.edit_history.specs.Session.{Session, state, accepted_or, edited, moved_back, moved_on}
use Rattle.routing_table.specs.declared.table.TableFault.TheVariants.{NoRouter}
use Rattle.recalculate.specs.declared.counts.Info.{Info}
use Rattle.routing_table.specs.Fault.{code_of as table_code, name_of as table_name}
use Rattle.routing_table.specs.Tables.{TableValue, table_in}
use Rattle.recalculate.specs.Counts.{info_of}
use Rattle.routing_table.specs.Routers.{attached_routers}
use Rattle.table_report.specs.Texts.{table_text}
use Rattle.table_report.specs.Comparing.{compare_text}
use Rattle.branches.specs.declared.reply.Reply.{Reply}
use Rattle.branches.specs.declared.reply.Reply.TheVariants as reply
use Rattle.branches.specs.declared.reply.Refusal.{Refusal}
use Rattle.branches.specs.declared.reply.Refusal.TheVariants as refusal

-- the reply to a command: that it was done, why it was refused, or what it asked for
pub data Said : Type 0 where
  done : Said
  refused : Refusal → Said
  table : TableValue → Said
  tables : List TableValue → Said
  compared : RouterId → TableValue → TableValue → Said
  counted : Info → Said

-- the contents of a reply
abbrev pub said_by : {A : Type 0} → Reply A → Said
said_by reply.Done = done
said_by (reply.Refused why) = refused why
said_by (reply.Table t) = table t.value
said_by (reply.Tables ts) = tables ts.items
said_by (reply.Compare router before now) = compared router before.value now
said_by (reply.Unchanged router t) = compared router t.value t.value
said_by (reply.Info info) = counted info

-- ---- one command

abbrev pub edit_reply : Result Session EditFault → Said
edit_reply (Ok after) = done
edit_reply (Err fault) = refused (refusal.Edit fault)

abbrev pub table_reply : Option TableValue → Said
table_reply None = refused (refusal.Table NoRouter)
table_reply (Some t) = table t

-- a router without a table counts as one without routes
abbrev pub or_empty : RouterId → Option TableValue → TableValue
or_empty router None = record { router = router; routes = [] }
or_empty router (Some t) = t

-- the comparison of the table at the start and the one now; there must be one at the start
abbrev pub compare_reply : RouterId → Option TableValue → Option TableValue → Said
compare_reply router None now = refused (refusal.Table NoRouter)
compare_reply router (Some before) now = compared router before (or_empty router now)

-- the reply to a command
abbrev pub reply_to : Session → Command → Said
reply_to s (command.Edit edit) = edit_reply (edited s edit)
reply_to s (command.Undo k) = if nat_le k (length s.done) then done else refused (refusal.Undo NothingToUndo)
reply_to s (command.Redo k) = if nat_le k (length s.undone) then done else refused (refusal.Redo NothingToRedo)
reply_to s (command.Table router) = table_reply (table_in (state s) router)
reply_to s command.Tables = tables (filter_map (table_in (state s)) (attached_routers (state s)))
reply_to s (command.Compare router) = compare_reply router (table_in s.base router) (table_in (state s) router)
reply_to s command.Info = counted (info_of s)

-- the session after a command; a refused command leaves it as it is, and so does a query
abbrev pub after : Session → Command → Session
after s (command.Edit edit) = accepted_or s (edited s edit)
after s (command.Undo k) = if nat_le k (length s.done) then moved_back k s else s
after s (command.Redo k) = if nat_le k (length s.undone) then moved_on k s else s
after s (command.Table router) = s
after s command.Tables = s
after s (command.Compare router) = s
after s command.Info = s

abbrev pub is_refusal : Said → Bool
is_refusal done = false
is_refusal (refused why) = true
is_refusal (table t) = false
is_refusal (tables ts) = false
is_refusal (compared router before now) = false
is_refusal (counted info) = false

-- the commands that may take memory; the others take none, in any branch
abbrev pub takes_memory : Command → Bool
takes_memory (command.Edit edit) = true
takes_memory (command.Undo k) = false
takes_memory (command.Redo k) = false
takes_memory (command.Table router) = true
takes_memory command.Tables = true
takes_memory (command.Compare router) = true
takes_memory command.Info = false

-- ---- texts

-- the text that answers a line, and whether the line was refused
pub record Answer : Type 0 where
  pub text : List ℕ
  pub refused : Bool

-- the code and the name of a refusal
abbrev pub refusal_texts : Refusal → List ℕ × List ℕ
refusal_texts (refusal.Edit fault) = edit_texts fault
refusal_texts (refusal.Undo NothingToUndo) = (codes "U1", codes "NothingToUndo")
refusal_texts (refusal.Redo NothingToRedo) = (codes "U2", codes "NothingToRedo")
refusal_texts (refusal.Table fault) = (table_code fault, table_name fault)

-- a word, and after it a code and a name
abbrev pub reported_text : List ℕ → List ℕ × List ℕ → List ℕ
reported_text word texts = word ++ texts.0 ++ codes " " ++ texts.1 ++ codes "\n"

-- the branch's mark and a space, before each reply
abbrev pub mark_of : ℕ → List ℕ
mark_of branch = codes "@" ++ decimal branch ++ codes " "

-- a word, and after it a number
abbrev pub with_count : List ℕ → ℕ → List ℕ
with_count word count = word ++ decimal count

-- the counts of a session: of its LSAs, of what virtual links leave in them, and of its edits
abbrev pub info_text : Info → List ℕ
info_text info =
    with_count (codes "info areas ") info.areas ++ with_count (codes " lsas ") info.lsas ++ with_count (codes " as ") info.as_lsas
    ++ with_count (codes " vbits ") info.vbits ++ with_count (codes " vlinks ") info.vlinks
    ++ with_count (codes " done ") info.done ++ with_count (codes " undone ") info.undone ++ codes "\n"

-- `ok`, `refused CODE NAME`, the text of a table, of tables or of a comparison, or counts
abbrev pub said_text : Said → List ℕ
said_text done = codes "ok\n"
said_text (refused why) = reported_text (codes "refused ") (refusal_texts why)
said_text (table t) = table_text t
said_text (tables ts) = codes "tables " ++ decimal (length ts) ++ codes "\n" ++ flat_map table_text ts
said_text (compared router before now) = compare_text router before now
said_text (counted info) = info_text info

-- `@B`, and the text of the reply
abbrev pub reply_text : ℕ → Said → List ℕ
reply_text branch said = mark_of branch ++ said_text said

-- ---- the reply to `tables`, by its parts

-- the text before those of this number of tables
abbrev pub tables_head : ℕ → ℕ → List ℕ
tables_head branch count = mark_of branch ++ (codes "tables " ++ decimal count ++ codes "\n")

-- the text of the routing table of a router, where it is attached to an area
abbrev pub router_text : Lists → RouterId → List ℕ
router_text db router = flat_map table_text (option_to_list (table_in db router))

-- the texts of routers, one after another
abbrev pub router_texts : Lists → List RouterId → List ℕ
router_texts db routers = flat_map (router_text db) routers

-- ---- lines that are not commands

-- `script CODE NAME`
abbrev pub script_text : ScriptFault → List ℕ
script_text fault = reported_text (codes "script ") (script_texts fault)
