use Rattle.std.proofs.Common.{◌∙◌, sym, ap}
use Rattle.std.specs.Prelude.{◌||◌}
use Rattle.std.proofs.lemmas.Result.{IfOk-weaker}
use Rattle.audit_topology.specs.Networks.{leads_elsewhere}
use Rattle.audit_topology.proofs.in_use.shows_use.Goals as goal

pub returns-then-has_other_end : goal.returns-then-has_other_end
returns-then-has_other_end g c =
    ap (λ b. b || leads_elsewhere c.args.areas.now c.args.network c.args.router) (sym c.if-has_other_end.true ∙ c.has_other_end.ensures)

pub returns : goal.returns
returns g c =
    IfOk-weaker c.leads_elsewhere.result _ _
    (λ leads is. is
    ∙ ap (λ b. b || leads_elsewhere c.args.areas.now c.args.network c.args.router) (sym c.if-has_other_end.false ∙ c.has_other_end.ensures))
    c.leads_elsewhere.ensures
