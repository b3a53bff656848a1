use Rattle.std.proofs.Common.{◌≡◌, ◌∙◌, ℕ, IfOk, ap, subst}
use Rattle.std.specs.Prelude.{OnOk}
use Rattle.std.specs.BTreeMap.{BTreeMap}
use Rattle.std.proofs.lemmas.Bool.{ne_eqb}
use Rattle.edit_history.specs.Session.{Session}
use Rattle.recalculate.specs.Planning.{PlannerValue}
use Rattle.branches.specs.Branches.{Named, Steps, named_by, sessions_by, sessions_of, stepped}
use Rattle.branches.specs.Replies.{reply_to, said_by}
use Rattle.branches.proofs.BranchSessions.{the_named, first_goes_on, on_ok, on_err}
use Rattle.branches.proofs.PlannersByNumber.{first_holds, not_named, other_holds, session_of_first, session_of_named, written_on, written_same}
use Rattle.branches.proofs.branches.Branches.step.Goals as goal

pub invariant_of-self : goal.invariant_of-self
invariant_of-self g c =
    first_holds c.self.inside.first c.execute.new.planner c.self.inside.others.entries c.self.inside.beginning c.execute.ensures.base c.self.invariant

pub returns-then-branch-eq0-clause-step : goal.returns-then-branch-eq0-clause-step
returns-then-branch-eq0-clause-step g c =
    let b = c.args.branch in
    let cmd = c.args.command.now in
    let others = c.self.inside.others.entries in
    let named : Named = named_by c.self.inside.first others in
    let new : Named = named_by c.execute.new.planner others in
    record {
      reply = subst (λ (s : Session). IfOk c.execute.result (λ reply. said_by reply ≡ reply_to s cmd))
          (session_of_first c.self.inside.first others b _ c.self.view_is c.if-branch-eq0.true) c.execute.ensures.reply;
      sessions = subst (λ (n : Named). OnOk c.execute.result (sessions_of new ≡ stepped b cmd (sessions_of n))) c.self.view_is
          (on_ok c.execute.result (first_goes_on named b c.execute.new.planner.session cmd c.if-branch-eq0.true) c.execute.ensures.session);
      kept = on_err c.execute.result (λ same. ap (λ (s : Session). the_named s (sessions_by others)) same ∙ c.self.view_is) c.execute.ensures.kept;
    }

pub invariant_of-self-in-Some : goal.invariant_of-self-in-Some
invariant_of-self-in-Some g c =
    let w = c.execute-in-Some.new.planner in
    other_holds c.self.inside.first c.self.inside.others (c.get_mut.follows.lender w) c.args.branch c.in-Some.planner.now w c.self.inside.beginning
    c.in-Some.ensures.value (c.get_mut.follows.holds w) c.execute-in-Some.ensures.base c.self.invariant

pub returns-in-Some-clause-step : goal.returns-in-Some-clause-step
returns-in-Some-clause-step g c =
    let b = c.args.branch in
    let cmd = c.args.command.now in
    let w = c.execute-in-Some.new.planner in
    let old = c.self.inside.others in
    let new : Named = named_by c.self.inside.first (c.get_mut.follows.lender w).entries in
    record {
      reply = subst (λ (s : Session). IfOk c.execute-in-Some.result (λ reply. said_by reply ≡ reply_to s cmd))
          (session_of_named c.self.inside.first old.entries b _ c.self.view_is c.in-Some.planner.now c.if-branch-eq0.false c.in-Some.ensures.value)
          c.execute-in-Some.ensures.reply;
      sessions = subst (λ (n : Named). OnOk c.execute-in-Some.result (sessions_of new ≡ stepped b cmd (sessions_of n))) c.self.view_is
          (on_ok c.execute-in-Some.result
          (written_on c.self.inside.first old (c.get_mut.follows.lender w) b c.in-Some.planner.now w cmd
          (ne_eqb b 0 c.if-branch-eq0.false) c.in-Some.ensures.value (c.get_mut.follows.holds w))
          c.execute-in-Some.ensures.session);
      kept = on_err c.execute-in-Some.result
          (λ same. ap (λ es. the_named c.self.inside.first.session es)
          (written_same old (c.get_mut.follows.lender w) b c.in-Some.planner.now w c.in-Some.ensures.value (c.get_mut.follows.holds w) same)
          ∙ c.self.view_is)
          c.execute-in-Some.ensures.kept;
    }

pub step_first-requires-clause-new : goal.step_first-requires-clause-new
step_first-requires-clause-new g c =
    not_named c.self.inside.first c.self.inside.others _ c.args.branch c.get_mut.follows.holds-at-none c.if-branch-eq0.false c.in-None.ensures.value

pub returns-in-None-clause-step : goal.returns-in-None-clause-step
returns-in-None-clause-step g c =
    subst (λ (n : Named). Steps c.args.branch c.args.command.now c.step_first.result n c.step_first.new.self)
    (ap (λ (m : BTreeMap ℕ PlannerValue). named_by c.self.inside.first m.entries) c.get_mut.follows.holds-at-none ∙ c.self.view_is)
    c.step_first.ensures.step
