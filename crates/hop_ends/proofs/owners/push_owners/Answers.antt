use Rattle.std.proofs.Common.{◌≡◌, ◌∙◌, List, ◌++◌, append_assoc, get_or, ap}
use Rattle.std.specs.List.{flat_map}
use Rattle.std.proofs.lemmas.List.{take_all}
use Rattle.lsa_codec.specs.declared.address.RouterId.{RouterId}
use Rattle.area_graph.specs.declared.edge.Edge.{Edge}
use Rattle.area_routes.proofs.AddsLemmas.{adds_at, flat_map_adds}
use Rattle.hop_ends.specs.steps.Rows.{owners_over}
use Rattle.hop_ends.proofs.OwnersOver.{owners_none, owners_pushed}
use Rattle.hop_ends.proofs.owners.push_owners.Goals as goal

abbrev no_edge : Edge
no_edge = record { to = 0; cost = 0; link_data = record { 0 = 0 } }

pub loop-edge-preserved : goal.loop-edge-preserved
loop-edge-preserved g c =
    let t = c.args.graph.now in
    let old = c.args.found.now.items in
    let row = c.edges-edge-items.result.now in
    let over = owners_over t c.args.router c.args.interface c.args.address in
    adds_at (flat_map_adds over) (λ cs. c.loop-edge.found.items ≡ old ++ cs)
    (λ cs. c.push_owners_over.new.found.items ≡ old ++ cs)
    row c.loop-edge.edge-index no_edge c.loop-edge-test.true c.loop-edge.invariant (λ cs was.
    c.in_ok-push_owners_over.ensures
    ∙ ap (λ (l : List RouterId). l ++ over (get_or row c.loop-edge.edge-index no_edge)) was
    ∙ append_assoc old cs (over (get_or row c.loop-edge.edge-index no_edge)))

pub returns : goal.returns
returns g c = λ edges before has same.
    let t = c.args.graph.now in
    let row = c.edges-edge-items.result.now in
    let all = take_all c.loop-edge.edge-index row c.loop-edge-test.false in
    let over = owners_over t c.args.router c.args.interface c.args.address in
    owners_pushed t c.index_of.ensures.shape edges has c.args.router c.args.interface c.args.address c.in-Some.index c.in-Some.ensures.number
    c.args.found.now.items before c.loop-edge.found.items
    (c.loop-edge.invariant ∙ ap (λ (es : List Edge). c.args.found.now.items ++ flat_map over es) (all ∙ c.edges-edge-items.ensures.row))
    same

pub returns-in_default : goal.returns-in_default
returns-in_default g c = λ edges before has same.
    owners_none c.args.graph.now c.index_of.ensures.shape edges has c.args.router c.args.interface c.args.address c.in_default.ensures.absent
    c.args.found.now.items before same
