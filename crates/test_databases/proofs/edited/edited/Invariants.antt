use Rattle.std.proofs.Common.{◌≡◌, Ok, [], take}
use Rattle.lsdb.specs.Loading.{loaded}
use Rattle.edit_history.specs.Journal.{Links}
use Rattle.edit_history.specs.Session.{session_of}
use Rattle.test_databases.specs.Lines.{Mean}
use Rattle.test_databases.proofs.edited.edited.Given as goal

-- the edits of the lines so far are done, from the database of the dump on
abbrev pub invariant-loop-line : goal.invariant-loop-line
invariant-loop-line g l = record {
  linked : Links l.database l.history.lists;
  loads : loaded l.dump ≡ Ok (session_of l.database l.history.lists).base;
  reads : Mean (take l.line-index l.lines) (session_of l.database l.history.lists).done;
  undone : (session_of l.database l.history.lists).undone ≡ [];
}
