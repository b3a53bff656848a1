use Rattle.std.proofs.Common.{◌≡◌, ℕ, ◌+◌, Ok, List, take, refl, sym, ap, subst, arith}
use Rattle.std.specs.Borrow.{Bor}
use Rattle.std.proofs.lemmas.List.{take_all}
use Rattle.lsdb.specs.Lists.{Lists}
use Rattle.lsdb.specs.Loading.{loaded}
use Rattle.edit_history.specs.Session.{Session, session_of, effects}
use Rattle.edit_history.proofs.HistoryLemmas.{done_accepted, start_linked, state_is}
use Rattle.test_databases.specs.Lines.{Mean}
use Rattle.test_databases.proofs.Meant.{mean_more}
use Rattle.test_databases.proofs.edited.edited.Goals as goal

pub loop-line-init : goal.loop-line-init
loop-line-init g c =
    rw c.new-history.ensures (record {
      linked = start_linked c.in_ok-database.database c.assert_valid.ensures;
      loads = c.in_ok-database.ensures.found;
      reads = refl;
      undone = refl;
    })

pub loop-line-preserved : goal.loop-line-preserved
loop-line-preserved g c =
    let kept = c.loop-line.invariant in
    let i = c.loop-line.line-index in
    let before : Session = session_of c.loop-line.database c.loop-line.history.lists in
    let next = c.in_ok-apply_and_push.ensures.session in
    record {
      linked = c.in_ok-apply_and_push.ensures.linked;
      loads = subst (λ (s : Session). loaded c.args.dump.now ≡ Ok s.base) (sym next) kept.loads;
      reads = subst (λ (s : Session). Mean (take (i + 1) c.args.lines.now) s.done) (sym next)
          (mean_more c.args.lines.now i _ before.done c.in_ok-edit.edit (omega arith) kept.reads c.in_ok-edit.ensures);
      undone = ap (λ (s : Session). s.undone) next;
    }

pub returns-clause-session : goal.returns-clause-session
returns-clause-session g c =
    let kept = c.loop-line.invariant in
    let d = c.loop-line.database in
    let h = c.loop-line.history.lists in
    let s : Session = session_of d h in
    record {
      loads = kept.loads;
      reads = subst (λ (lines : List (Bor (List ℕ))). Mean lines s.done) (take_all c.loop-line.line-index c.args.lines.now (omega arith)) kept.reads;
      accepted = subst (λ (db : Lists). effects s.base s.done ≡ Ok db) (sym (state_is d h kept.linked)) (done_accepted d h kept.linked);
      undone = kept.undone;
    }
