use Rattle.std.proofs.Common.{◌≡◌, ap, sym, subst, ◌∙◌, arith}
use Rattle.std.specs.Option.{option_copied}
use Rattle.external_routes.proofs.Longest.{LeftOut, left_out_all, left_out_found, left_out_missed, left_out_none}
use Rattle.external_routes.proofs.forward.forward_match.Goals as goal

pub loop-shorter-init : goal.loop-shorter-init
loop-shorter-init g c = left_out_none c.args.addr c.args.routes.now c.args.marks.now c.requires

pub loop-shorter-preserved : goal.loop-shorter-preserved
loop-shorter-preserved g c =
    left_out_missed c.args.addr c.args.routes.now c.loop-shorter.shorter (omega arith) c.loop-shorter.invariant
    (ap option_copied (sym c.in_default.is) ∙ c.covering.ensures)

pub returns-in-Some : goal.returns-in-Some
returns-in-Some g c =
    left_out_found c.args.addr c.args.routes.now c.loop-shorter.shorter (omega arith) c.loop-shorter.invariant c.in-Some.route.now
    (ap option_copied (sym c.in-Some.is) ∙ c.covering.ensures)

pub returns : goal.returns
returns g c =
    let end : c.loop-shorter.shorter ≡ 33 = omega arith in
    left_out_all c.args.addr c.args.routes.now (subst (λ n. LeftOut c.args.addr n c.args.routes.now) end c.loop-shorter.invariant)
