use Rattle.std.proofs.Common.{◌≡◌, IfSome, length, refl, sym, ap, ◌∙◌, subst, arith}
use Rattle.std.proofs.lemmas.Result.{err_from_is_err_and}
use Rattle.lsdb.specs.Lists.{Lists}
use Rattle.lsdb.specs.Slots.{lists_of}
use Rattle.edit_history.specs.Journal.{HistoryData, Links}
use Rattle.edit_history.specs.Session.{session_of, edited}
use Rattle.edit_history.proofs.HistoryLemmas.{recorded}
use Rattle.recalculate.proofs.Steps.{edited_full, edited_refused, edited_accepted, answer, pushed}
use Rattle.recalculate.proofs.study.Study.edit.Goals as goal

pub returns-then-done-ge-MOST_EDITS-clause-refused : goal.returns-then-done-ge-MOST_EDITS-clause-refused
returns-then-done-ge-MOST_EDITS-clause-refused g c = λ _.
    ap (λ s. edited s c.args.edit.now) (sym c.self.view_is)
    ∙ edited_full c.self.inside.database c.self.inside.history.lists c.args.edit.now (omega (arith, c.done.ensures, c.if-done-ge-MOST_EDITS.true))

pub returns-in_err-record-clause-refused : goal.returns-in_err-record-clause-refused
returns-in_err-record-clause-refused g c =
    let gave = err_from_is_err_and c.from_residual-in_err-record.result c.from_residual-in_err-record.ensures.1 in
    rw (gave.1, gave.2)
    (λ known.
    ap (λ s. edited s c.args.edit.now) (sym c.self.view_is)
    ∙ edited_refused c.self.inside.database c.self.inside.history.lists c.args.edit.now c.in_err-record.field-0.0
    (omega (arith, c.done.ensures, c.if-done-ge-MOST_EDITS.false)) c.self.invariant.links (c.in_err-record.ensures.refused.known known))

pub invariant_of-self-2 : goal.invariant_of-self-2
invariant_of-self-2 g c =
    let now : c.push.new.self.lists ≡ pushed c.in_ok-record.record c.self.inside.history.lists =
    c.push.ensures ∙ ap (pushed c.in_ok-record.record) c.reserve.ensures.lists in
    let more =
    recorded c.self.inside.database c.apply.new.database c.self.inside.history.lists c.args.edit.now
    c.in_ok-record.record c.self.invariant.links c.assert_valid.ensures c.in_ok-record.ensures.applied in
    record {
      links = subst (λ (h : HistoryData). Links c.apply.new.database h) (sym now) more.links;
      few = omega (
        arith,
        ap (λ (h : HistoryData). length h.past) now,
        ap (λ (h : HistoryData). length h.future) now,
        c.done.ensures,
        c.if-done-ge-MOST_EDITS.false,
      );
      loaded = subst (λ (h : HistoryData). IfSome c.self.inside.loaded (λ slots. lists_of slots ≡ (session_of c.apply.new.database h).base)) (sym now)
          (subst (λ (db : Lists). IfSome c.self.inside.loaded (λ slots. lists_of slots ≡ db)) (sym more.base) c.self.invariant.loaded);
    }

pub returns-clause-ok : goal.returns-clause-ok
returns-clause-ok g c =
    ap (λ s. edited s c.args.edit.now) (sym c.self.view_is)
    ∙ edited_accepted c.self.inside.database c.apply.new.database c.self.inside.history.lists c.args.edit.now c.in_ok-record.record
    (omega (arith, c.done.ensures, c.if-done-ge-MOST_EDITS.false)) c.self.invariant.links c.assert_valid.ensures c.in_ok-record.ensures.applied
    ∙ ap (λ (h : HistoryData). answer (session_of c.apply.new.database h)) (sym (c.push.ensures ∙ ap (pushed c.in_ok-record.record) c.reserve.ensures.lists))

pub returns-clause-reached : goal.returns-clause-reached
returns-clause-reached g c = record {
  slots = c.apply.new.database;
  history = c.push.new.self.lists;
  links = subst (λ (h : HistoryData). Links c.apply.new.database h) (sym (c.push.ensures ∙ ap (pushed c.in_ok-record.record) c.reserve.ensures.lists))
      (recorded c.self.inside.database c.apply.new.database c.self.inside.history.lists c.args.edit.now
      c.in_ok-record.record c.self.invariant.links c.assert_valid.ensures c.in_ok-record.ensures.applied).links;
  shows = refl;
}
