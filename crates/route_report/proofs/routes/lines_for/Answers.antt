use Rattle.std.proofs.Common.{◌++◌, List, [], Option, ap, ◌∙◌}
use Rattle.std.specs.List.{cons_option, filter_map}
use Rattle.std.proofs.lemmas.List.{take_all}
use Rattle.lsa_codec.specs.Prefix.{Net}
use Rattle.lsdb.specs.Slots.{lists_of}
use Rattle.area_routes.proofs.AddsLemmas.{filter_map_adds}
use Rattle.route_lines.specs.RouteLines.{RouteLineValue}
use Rattle.route_report.specs.Lines.{line_for}
use Rattle.route_report.proofs.Grown.{one_more}
use Rattle.route_report.proofs.routes.lines_for.Goals as goal

pub loop-net-preserved : goal.loop-net-preserved
loop-net-preserved g c = λ are.
    let lines = c.loop-net.lines.items in
    one_more (filter_map_adds (line_for (lists_of c.args.database.now) c.args.routes.now)) c.args.nets.now c.loop-net.net-index c.net-item.result
    lines c.append.new.self.items c.loop-net-test.true c.net-item.is (c.loop-net.invariant are)
    (c.in_ok-append.ensures.items
    ∙ ap (λ (l : List RouteLineValue). lines ++ l) (c.in_ok-found.ensures ∙ ap (λ (o : Option RouteLineValue). cons_option o []) (c.in_ok-line.ensures are)))

pub returns : goal.returns
returns g c = λ are.
    c.loop-net.invariant are
    ∙ ap (λ (nets : List Net). filter_map (line_for (lists_of c.args.database.now) c.args.routes.now) nets)
    (take_all c.loop-net.net-index c.args.nets.now c.loop-net-test.false)
