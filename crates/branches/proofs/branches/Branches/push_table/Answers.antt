use Rattle.std.proofs.Common.{◌≡◌, ◌++◌, ◌∙◌, ℕ, ap, subst}
use Rattle.std.specs.Prelude.{OnOk}
use Rattle.std.specs.BTreeMap.{BTreeMap}
use Rattle.std.specs.String.{string_bytes}
use Rattle.edit_history.specs.Session.{Session, state}
use Rattle.recalculate.specs.Planning.{PlannerValue}
use Rattle.branches.specs.Branches.{Named, named_by, sessions_of}
use Rattle.branches.specs.Replies.{router_text}
use Rattle.branches.proofs.PlannersByNumber.{first_held, first_stays, not_named, other_held, other_stays, session_of_named}
use Rattle.branches.proofs.branches.Branches.push_table.Goals as goal

pub invariant_of-self : goal.invariant_of-self
invariant_of-self g c =
    first_held c.self.inside.first c.push_table_now.new.planner c.push_table_now.ensures.kept c.self.inside.others.entries c.self.inside.beginning c.self.invariant

pub returns-then-branch-eq0-clause-kept : goal.returns-then-branch-eq0-clause-kept
returns-then-branch-eq0-clause-kept g c =
    first_stays c.self.inside.first c.push_table_now.new.planner c.push_table_now.ensures.kept c.self.inside.others.entries _ c.self.view_is

pub invariant_of-self-in-Some : goal.invariant_of-self-in-Some
invariant_of-self-in-Some g c =
    let w = c.push_table_now-in-Some.new.planner in
    other_held c.in-Some.planner.now w c.push_table_now-in-Some.ensures.kept c.self.inside.first c.self.inside.others (c.get_mut.follows.lender w) c.args.branch
    c.self.inside.beginning c.in-Some.ensures.value (c.get_mut.follows.holds w) c.self.invariant

pub returns-in-Some-clause-kept : goal.returns-in-Some-clause-kept
returns-in-Some-clause-kept g c =
    let w = c.push_table_now-in-Some.new.planner in
    other_stays c.in-Some.planner.now w c.push_table_now-in-Some.ensures.kept c.self.inside.first c.self.inside.others (c.get_mut.follows.lender w) c.args.branch _
    c.self.view_is c.in-Some.ensures.value (c.get_mut.follows.holds w)

pub returns-in-Some-clause-text : goal.returns-in-Some-clause-text
returns-in-Some-clause-text g c =
    subst (λ (s : Session). OnOk c.push_table_now-in-Some.result (string_bytes c.push_table_now-in-Some.new.text ≡ string_bytes c.args.text.now
    ++ router_text (state s) c.args.router))
    (session_of_named c.self.inside.first c.self.inside.others.entries c.args.branch _ c.self.view_is c.in-Some.planner.now
    c.if-branch-eq0.false c.in-Some.ensures.value)
    c.push_table_now-in-Some.ensures.text

pub begin_with_table-requires-clause-new : goal.begin_with_table-requires-clause-new
begin_with_table-requires-clause-new g c =
    not_named c.self.inside.first c.self.inside.others _ c.args.branch c.get_mut.follows.holds-at-none c.if-branch-eq0.false c.in-None.ensures.value

pub returns-in-None-clause-text : goal.returns-in-None-clause-text
returns-in-None-clause-text g c =
    subst (λ (n : Named). OnOk c.begin_with_table.result (string_bytes c.begin_with_table.new.text ≡ string_bytes c.args.text.now
    ++ router_text (state (sessions_of n c.args.branch)) c.args.router))
    (ap (λ (m : BTreeMap ℕ PlannerValue). named_by c.self.inside.first m.entries) c.get_mut.follows.holds-at-none ∙ c.self.view_is)
    c.begin_with_table.ensures.text
