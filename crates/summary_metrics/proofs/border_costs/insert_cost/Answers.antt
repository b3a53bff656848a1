use Rattle.std.proofs.Common.{cond, Some, is_some, sym, ap, ◌∙◌}
use Rattle.std.specs.Map.{lookup}
use Rattle.std.specs.Ordering.{eq_by_cmp}
use Rattle.lsa_codec.specs.Order.{router_cmp}
use Rattle.summary_metrics.proofs.MoreCosts.{added, again, other_kind, put_back}
use Rattle.summary_metrics.proofs.border_costs.insert_cost.Goals as goal

pub returns-then-not-is_border : goal.returns-then-not-is_border
returns-then-not-is_border g c = λ entries before.
    other_kind entries c.args.entry.now c.args.costs.now.entries before (sym c.is_border.ensures ∙ c.if-not-is_border.true)

pub returns-in_ok-insert : goal.returns-in_ok-insert
returns-in_ok-insert g c = λ entries before q.
    let router = ap (λ e. e.router) c.entry.view_is in
    let old = c.args.costs.now.entries in
    let was = sym c.in_ok-first.ensures.old ∙ c.in-Some.is in
    put_back c.entry.inside.router c.entry.inside.cost c.in-Some.first old c.insert.new.self.entries c.insert-in-Some.new.self.entries was
    c.in_ok-first.ensures.updates.0 c.in_ok-insert.ensures.updates.0 q
    ∙ again entries c.args.entry.now old before
    (ap (λ r. is_some (lookup (eq_by_cmp router_cmp r) old)) (sym router) ∙ ap is_some was) q

pub returns-in_default : goal.returns-in_default
returns-in_default g c = λ entries before.
    let router = ap (λ e. e.router) c.entry.view_is in
    let old = c.args.costs.now.entries in
    added entries c.args.entry.now old before c.insert.new.self.entries
    (sym c.is_border.ensures ∙ c.if-not-is_border.false)
    (ap (λ r. is_some (lookup (eq_by_cmp router_cmp r) old)) (sym router) ∙ ap is_some (sym c.in_ok-first.ensures.old ∙ c.in_default.is))
    (λ q. c.in_ok-first.ensures.updates.0 q
    ∙ (λ i. cond (eq_by_cmp router_cmp (router i) q) (Some (c.entry.view_is i).cost) (lookup (eq_by_cmp router_cmp q) old)))
