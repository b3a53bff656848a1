use Rattle.std.proofs.Common.{◌≡◌, ◌∙◌, ◌-◌, Bor, Option, Some, true, sym, ap, arith}
use Rattle.std.specs.Option.{option_copied}
use Rattle.best_ways.specs.Values.{RouteValue}
use Rattle.lsa_codec.specs.Prefix.{masked}
use Rattle.loop_report.specs.steps.Falling.{source_by, source_for, source_of}
use Rattle.loop_report.proofs.Reading.{match_weaker, some_copied}
use Rattle.loop_report.proofs.Sources.{longest_is, source_read}
use Rattle.loop_report.proofs.falling.source_of.Goals as goal

pub returns-then-contains : goal.returns-then-contains
returns-then-contains g c =
    let r = c.args.routes.now in
    let len = 32 - c.loop-shorter.shorter in
    let read = source_read r c.masked-net.result (masked c.args.address len) c.own.result.now.keys c.routes.result.now true (option_copied c.route_to-route.result)
    c.masked-net.ensures c.own.ensures c.routes.ensures (sym c.if-contains.true ∙ c.contains.ensures) c.route_to-route.ensures in
    match_weaker c.own_source.result (λ (source : Option (Bor RouteValue)). source_by true (option_copied c.route_to-route.result) ≡ Some (option_copied source))
    (λ (source : Option (Bor RouteValue)). source_of r c.args.address ≡ Some (option_copied source))
    (λ source is.
    longest_is (source_for r) c.args.address len (option_copied source) (omega arith) (sym read ∙ is)
    (λ longer lt le. c.loop-shorter.invariant longer (omega arith) le)) c.own_source.ensures

pub returns-then-is_some : goal.returns-then-is_some
returns-then-is_some g c =
    let r = c.args.routes.now in
    let len = 32 - c.loop-shorter.shorter in
    let read = source_read r c.masked-net.result (masked c.args.address len) c.own.result.now.keys c.routes.result.now _ (option_copied c.route_to-route.result)
    c.masked-net.ensures c.own.ensures c.routes.ensures (sym c.if-contains.false ∙ c.contains.ensures) c.route_to-route.ensures in
    longest_is (source_for r) c.args.address len (option_copied c.route_to-route.result) (omega arith)
    (sym read ∙ some_copied c.route_to-route.result (sym c.is_some.ensures ∙ c.if-is_some.true))
    (λ longer lt le. c.loop-shorter.invariant longer (omega arith) le)
