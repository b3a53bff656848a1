use Rattle.std.proofs.Common.{cond, Some, is_some, sym, ap, ◌∙◌}
use Rattle.std.specs.Map.{lookup}
use Rattle.std.specs.Ordering.{eq_by_cmp, is_eq}
use Rattle.lsa_codec.specs.Order.{router_cmp}
use Rattle.area_routes.proofs.Indexing.{added, again, other_kind}
use Rattle.area_routes.proofs.entry_index.insert_entry.Goals.{then-not-is_of-via-then-not-is_of, then-not-is_of-via-else-not-is_of+then-contains_key}
use Rattle.area_routes.proofs.entry_index.insert_entry.Goals as goal

pub returns-then-not-is_of : goal.returns-then-not-is_of
returns-then-not-is_of g c = λ entries before.
    let router = ap (λ e. e.router) c.entry.view_is in
    let old = c.args.by_router.now.entries in
    elim c.then-not-is_of.branch [
      | then-not-is_of-via-then-not-is_of w ↦ other_kind c.args.kind entries c.args.entry.now old before (sym c.is_of.ensures ∙ w.if-not-is_of.true)
      | then-not-is_of-via-else-not-is_of+then-contains_key w ↦
          again c.args.kind entries c.args.entry.now old before
          (ap (λ r. is_some (lookup (eq_by_cmp router_cmp r) old)) (sym router) ∙ sym w.contains_key.ensures ∙ w.if-contains_key.true)
    ]

pub returns : goal.returns
returns g c = λ entries before.
    let router = ap (λ e. e.router) c.entry.view_is in
    let old = c.args.by_router.now.entries in
    added c.args.kind entries c.args.entry.now old before c.insert.new.self.entries
    (sym c.is_of.ensures ∙ c.if-not-is_of.false)
    (ap (λ r. is_some (lookup (eq_by_cmp router_cmp r) old)) (sym router) ∙ sym c.contains_key.ensures ∙ c.if-contains_key.false)
    (λ q. c.in_ok-insert.ensures.updates.0 q ∙ ap (λ r. cond (is_eq (router_cmp r q)) (Some c.args.entry.now) (lookup (eq_by_cmp router_cmp q) old)) router)
