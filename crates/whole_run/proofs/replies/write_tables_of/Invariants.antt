use Rattle.std.proofs.Common.{◌≡◌, false, take}
use Rattle.std.specs.Io.KnownBytes.{Appends}
use Rattle.host_io.specs.Watched.{inner_of, has_failed}
use Rattle.edit_history.specs.Session.{state}
use Rattle.branches.specs.Branches.{sessions_of}
use Rattle.branches.specs.Replies.{router_texts}
use Rattle.whole_run.proofs.replies.write_tables_of.Given as goal

-- the tables of the routers so far are written, and the sessions are as they were
abbrev pub invariant-loop-router : goal.invariant-loop-router
invariant-loop-router g l = record {
  still_open : has_failed l.replies ≡ false;
  kept : sessions_of l.branches ≡ sessions_of l.initial.branches;
  written : Appends (g.W.Write.contents (inner_of l.initial.replies)) (g.W.Write.contents (inner_of l.replies))
      (router_texts (state (sessions_of l.initial.branches l.branch)) (take l.router-index l.routers));
}
