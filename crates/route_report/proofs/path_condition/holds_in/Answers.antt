use Rattle.std.proofs.Common.{◌≡◌, ◌↔◌, true, IfOk, List, eqb, not, sym, ap, subst, ◌∙◌}
use Rattle.std.specs.List.{list_any}
use Rattle.lsa_codec.specs.declared.address.RouterId.{RouterId}
use Rattle.study_script.specs.declared.condition.Passing.{Passing}
use Rattle.route_lines.specs.PathLines.{PathValue}
use Rattle.forwarding.specs.Graphs.{next_in}
use Rattle.route_report.specs.Passing.{HoldsIn}
use Rattle.route_report.proofs.Deciding.{decides_not, is_reached}
use Rattle.route_report.proofs.path_condition.holds_in.Goals as goal

pub returns-in-Via : goal.returns-in-Via
returns-in-Via g c =
    subst
    (λ (p : Passing). IfOk c.is_passed.result (λ yes. (yes ≡ true) ↔ HoldsIn c.args.graph.now c.args.start c.args.path.now p))
    (sym c.in-Via.is) c.is_passed.ensures

pub returns-in-Avoids : goal.returns-in-Avoids
returns-in-Avoids g c =
    subst
    (λ (p : Passing). (not c.contains.result ≡ true) ↔ HoldsIn c.args.graph.now c.args.start c.args.path.now p)
    (sym c.in-Avoids.is)
    (decides_not c.contains.result
    (is_reached (next_in c.args.graph.now) c.args.start c.in-Avoids.router c.args.path.now.routers c.requires c.contains.result
    (c.contains.ensures.value
    ∙ ap (λ (rs : List RouterId). list_any (λ r. eqb r.0 c.in-Avoids.router.0) rs)
    (c.deref-in-Avoids.ensures.value ∙ ap (λ (p : PathValue). p.routers) c.path.view_is))))
