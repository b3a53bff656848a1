use Rattle.std.proofs.Common.{◌≡◌, ◌+◌, true, false, cond, Bool, length, sym, ap, ◌∙◌, inl, inr}
use Rattle.std.specs.Prelude.{not}
use Rattle.route_report.specs.steps.Sure.{has_router, sure_by}
use Rattle.route_report.proofs.SureSteps.{adds_none, adds_one}
use Rattle.route_report.proofs.passing.add_sure.Goals as goal
use Rattle.route_report.proofs.passing.add_sure.Goals.{then-contains-via-then-contains, then-contains-via-else-contains+then-not-sure_by}

pub returns-then-contains : goal.returns-then-contains
returns-then-contains g c =
    let keys = c.args.sure.now.keys in
    elim c.then-contains.branch [
      | then-contains-via-then-contains w ↦
          adds_none c.args.graph.now c.args.router keys (inl (sym c.contains.ensures ∙ w.if-contains.true))
      | then-contains-via-else-contains+then-not-sure_by w ↦
          adds_none c.args.graph.now c.args.router keys (inr (sym (w.sure_by.ensures ∙ ap (sure_by keys) w.step.ensures) ∙ w.if-not-sure_by.true))
    ]

pub returns : goal.returns
returns g c =
    let keys = c.args.sure.now.keys in
    let fresh : has_router keys c.args.router ≡ false = sym c.contains.ensures ∙ c.if-contains.false in
    let added : c.in_ok-insert.field-0 ≡ true = c.in_ok-insert.ensures.added ∙ ap not fresh in
    adds_one c.args.graph.now c.args.router keys c.insert.new.self.keys c.in_ok-insert.ensures.keys
    (c.in_ok-insert.ensures.len ∙ ap (λ (b : Bool). length keys + cond b 1 0) added)
    (sym (c.sure_by.ensures ∙ ap (sure_by keys) c.step.ensures) ∙ c.if-not-sure_by.false)
