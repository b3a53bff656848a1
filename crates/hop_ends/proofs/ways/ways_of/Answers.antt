use Rattle.std.proofs.Common.{◌≡◌, ◌∙◌, List, ◌++◌, get_or, take, ap}
use Rattle.std.specs.List.{flat_map}
use Rattle.std.proofs.lemmas.List.{take_all}
use Rattle.next_hops.specs.declared.hop.Hop.{Hop}
use Rattle.next_hops.specs.declared.hop.Hop.TheVariants.{Connected}
use Rattle.best_ways.specs.Values.{RouteValue}
use Rattle.hop_ends.specs.Ways.{ways_over}
use Rattle.hop_ends.proofs.Taken.{ways_more}
use Rattle.hop_ends.proofs.ways.ways_of.Goals as goal

pub loop-hop-preserved : goal.loop-hop-preserved
loop-hop-preserved g c = λ db are.
    let hops = c.as_slice-hop-items.result.now in
    let i = c.loop-hop.hop-index in
    let over = ways_over db c.args.router c.args.route.now.net c.args.route.now.kind in
    let ways = c.loop-hop.ways.items in
    let pushed : c.push_over.new.ways.items ≡ ways ++ over (get_or hops i Connected) =
    c.in_ok-push_over.ensures db are
    ∙ ap (λ (r : RouteValue). ways ++ ways_over db c.args.router r.net r.kind (get_or hops i Connected)) c.route.view_is in
    let before : ways ≡ flat_map over (take i hops) = c.loop-hop.invariant db are in
    ways_more over hops i Connected c.loop-hop-test.true ways c.push_over.new.ways.items before pushed

pub returns : goal.returns
returns g c = λ db are.
    let hops = c.as_slice-hop-items.result.now in
    c.loop-hop.invariant db are
    ∙ ap (λ (hs : List Hop). flat_map (ways_over db c.args.router c.args.route.now.net c.args.route.now.kind) hs)
    (take_all c.loop-hop.hop-index hops c.loop-hop-test.false ∙ c.as_slice-hop-items.ensures.hops ∙ ap (λ (r : RouteValue). r.hops) c.route.view_is)
