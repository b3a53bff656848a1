use Rattle.std.proofs.Common.{◌≡◌, ◌∙◌, [], List, ◌++◌, Option, append_assoc, ap}
use Rattle.std.specs.List.{cons_option, filter_map}
use Rattle.std.proofs.lemmas.List.{take_all}
use Rattle.lsa_codec.specs.declared.address.RouterId.{RouterId}
use Rattle.area_graph.specs.declared.edge.Edge.{Edge}
use Rattle.area_routes.proofs.AddsLemmas.{adds_at, filter_map_adds}
use Rattle.hop_ends.specs.steps.Rows.{end_over}
use Rattle.hop_ends.proofs.FarEnds.{far_ends_none, far_ends_pushed}
use Rattle.hop_ends.proofs.far_ends.push_far_ends.Goals as goal

abbrev no_edge : Edge
no_edge = record { to = 0; cost = 0; link_data = record { 0 = 0 } }

pub loop-edge-preserved : goal.loop-edge-preserved
loop-edge-preserved g c =
    let t = c.args.graph.now in
    let old = c.args.found.now.items in
    let row = c.edges-edge-items.result.now in
    adds_at (filter_map_adds (end_over t c.args.interface)) (λ cs. c.loop-edge.found.items ≡ old ++ cs) (λ cs. c.push_some.new.list.items ≡ old ++ cs)
    row c.loop-edge.edge-index no_edge c.loop-edge-test.true c.loop-edge.invariant (λ cs was.
    c.in_ok-push_some.ensures
    ∙ ap (λ (l : List RouterId). l ++ cons_option c.end_over.result []) was
    ∙ append_assoc old cs (cons_option c.end_over.result [])
    ∙ ap (λ (o : Option RouterId). old ++ (cs ++ cons_option o [])) c.end_over.ensures)

pub returns : goal.returns
returns g c = λ edges before has same.
    let t = c.args.graph.now in
    let row = c.edges-edge-items.result.now in
    let all = take_all c.loop-edge.edge-index row c.loop-edge-test.false in
    far_ends_pushed t c.index_of.ensures.shape edges has c.args.router c.args.interface c.in-Some.index c.in-Some.ensures.number
    c.args.found.now.items before c.loop-edge.found.items
    (c.loop-edge.invariant ∙ ap (λ (es : List Edge). c.args.found.now.items ++ filter_map (end_over t c.args.interface) es) (all ∙ c.edges-edge-items.ensures.row))
    same

pub returns-in_default : goal.returns-in_default
returns-in_default g c = λ edges before has same.
    far_ends_none c.args.graph.now c.index_of.ensures.shape edges has c.args.router c.args.interface c.in_default.ensures.absent c.args.found.now.items before same
