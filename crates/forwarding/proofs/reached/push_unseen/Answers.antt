use Rattle.std.proofs.Common.{◌≡◌, ◌∙◌, [], List, ◌++◌, Option, append_assoc, ap}
use Rattle.std.specs.List.{cons_option}
use Rattle.lsa_codec.specs.declared.address.RouterId.{RouterId}
use Rattle.next_hops.specs.declared.hop.Hop.TheVariants.{Connected}
use Rattle.area_routes.proofs.AddsLemmas.{adds_at, filter_map_adds}
use Rattle.hop_ends.specs.declared.way.Way.{Way}
use Rattle.hop_ends.specs.declared.way.Way.TheVariants.{Via}
use Rattle.forwarding.specs.steps.Levels.{unseen, unseen_over}
use Rattle.forwarding.proofs.reached.push_unseen.Goals as goal

abbrev no_way : Way
no_way = Via Connected (record { 0 = 0 })

pub loop-way-preserved : goal.loop-way-preserved
loop-way-preserved g c =
    let old = c.args.routers.now.items in
    let keys = c.args.seen.now.keys in
    adds_at (filter_map_adds (unseen_over keys)) (λ cs. c.loop-way.routers.items ≡ old ++ cs) (λ cs. c.push_some.new.list.items ≡ old ++ cs)
    c.args.ways.now c.loop-way.way-index no_way c.loop-way-test.true c.loop-way.invariant (λ cs was.
    c.in_ok-push_some.ensures
    ∙ ap (λ (l : List RouterId). l ++ cons_option c.unseen.result []) was
    ∙ append_assoc old cs (cons_option c.unseen.result [])
    ∙ ap (λ (o : Option RouterId). old ++ (cs ++ cons_option o [])) (c.unseen.ensures ∙ ap (unseen keys) c.router.ensures))
