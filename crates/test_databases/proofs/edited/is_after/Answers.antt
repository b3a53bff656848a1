use Rattle.std.proofs.Common.{◌≡◌, true, sym, subst}
use Rattle.std.specs.Prelude.{◌↔◌, All}
use Rattle.lsdb.specs.Lists.{Lists}
use Rattle.lsdb.specs.Slots.{lists_of}
use Rattle.edit_history.specs.Session.{session_of}
use Rattle.edit_history.proofs.HistoryLemmas.{state_is}
use Rattle.test_databases.specs.Edited.{HasSame}
use Rattle.test_databases.proofs.edited.is_after.Goals as goal

pub returns : goal.returns
returns g c =
    let d = c.in_ok-other.other in
    let h = c.in_ok-other._history.lists in (
      session_of d h,
      (
        c.in_ok-other.ensures.session,
        subst (λ (db : Lists). (c.have_same.result ≡ true) ↔ All (HasSame (lists_of c.args.database.now) db) c.args.sections.now)
            (sym (state_is d h c.in_ok-other.ensures.linked)) c.have_same.ensures,
      ),
    )
