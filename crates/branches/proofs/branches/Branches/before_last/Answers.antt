use Rattle.std.proofs.Common.{◌≡◌, ◌∙◌, ℕ, IfOk, Option, Result, ap, subst}
use Rattle.std.specs.Prelude.{option_map}
use Rattle.lsdb.specs.Slots.{Slots, lists_of}
use Rattle.edit_history.specs.Session.{Session, start}
use Rattle.branches.specs.Branches.{Named, before_last}
use Rattle.branches.proofs.PlannersByNumber.{first_held, first_stays, other_held, other_stays}
use Rattle.branches.proofs.PlannersByNumber.{session_of_first, session_of_named, session_of_unnamed}
use Rattle.branches.proofs.branches.Branches.before_last.Goals as goal

copied : {E : Type 0} (r : Result (Option Slots) E) (count : ℕ) (s t : Session) → IfOk r (λ database. option_map lists_of database ≡ before_last count s)
    → s ≡ t → IfOk r (λ database. option_map lists_of database ≡ before_last count t)
copied r count s t before same = subst (λ (u : Session). IfOk r (λ database. option_map lists_of database ≡ before_last count u)) same before

pub invariant_of-self : goal.invariant_of-self
invariant_of-self g c =
    first_held c.self.inside.first c.before_last.new.planner c.before_last.ensures.kept c.self.inside.others.entries c.self.inside.beginning c.self.invariant

pub returns-then-branch-eq0 : goal.returns-then-branch-eq0
returns-then-branch-eq0 g c = record {
  database = copied c.before_last.result c.args.count _ _ c.before_last.ensures.database
      (session_of_first c.self.inside.first c.self.inside.others.entries c.args.branch _ c.self.view_is c.if-branch-eq0.true);
  kept = first_stays c.self.inside.first c.before_last.new.planner c.before_last.ensures.kept c.self.inside.others.entries _ c.self.view_is;
}

pub invariant_of-self-in-Some : goal.invariant_of-self-in-Some
invariant_of-self-in-Some g c =
    let w = c.before_last-in-Some.new.planner in
    other_held c.in-Some.planner.now w c.before_last-in-Some.ensures.kept c.self.inside.first c.self.inside.others (c.get_mut.follows.lender w) c.args.branch
    c.self.inside.beginning c.in-Some.ensures.value (c.get_mut.follows.holds w) c.self.invariant

pub returns-in-Some : goal.returns-in-Some
returns-in-Some g c = record {
  database = copied c.before_last-in-Some.result c.args.count _ _ c.before_last-in-Some.ensures.database
      (session_of_named c.self.inside.first c.self.inside.others.entries c.args.branch _ c.self.view_is c.in-Some.planner.now
      c.if-branch-eq0.false c.in-Some.ensures.value);
  kept = other_stays c.in-Some.planner.now c.before_last-in-Some.new.planner c.before_last-in-Some.ensures.kept c.self.inside.first c.self.inside.others
      (c.get_mut.follows.lender c.before_last-in-Some.new.planner) c.args.branch _ c.self.view_is c.in-Some.ensures.value
      (c.get_mut.follows.holds c.before_last-in-Some.new.planner);
}

pub returns-in_ok-begun-in-None-clause-database : goal.returns-in_ok-begun-in-None-clause-database
returns-in_ok-begun-in-None-clause-database g c =
    copied c.before_last-in-None.result c.args.count _ _ c.before_last-in-None.ensures.database
    (c.in_ok-begun-in-None.ensures.begun ∙ ap (λ (n : Named). start n.first.base) c.self.view_is
    ∙ session_of_unnamed c.self.inside.first c.self.inside.others.entries c.args.branch _ c.self.view_is c.if-branch-eq0.false c.in-None.ensures.value)
