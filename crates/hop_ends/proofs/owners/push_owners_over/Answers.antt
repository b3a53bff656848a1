use Rattle.std.proofs.Common.{◌≡◌, ◌∙◌, [], List, ◌++◌, Option, append_assoc, ap}
use Rattle.std.specs.List.{cons_option}
use Rattle.lsa_codec.specs.declared.address.RouterId.{RouterId}
use Rattle.area_graph.specs.declared.edge.Edge.{Edge}
use Rattle.area_routes.proofs.AddsLemmas.{adds_at, filter_map_adds}
use Rattle.hop_ends.specs.steps.Rows.{owner_over}
use Rattle.hop_ends.proofs.owners.push_owners_over.Goals as goal

abbrev no_edge : Edge
no_edge = record { to = 0; cost = 0; link_data = record { 0 = 0 } }

pub loop-other-preserved : goal.loop-other-preserved
loop-other-preserved g c =
    let t = c.args.graph.now in
    let old = c.args.found.now.items in
    let row = c.edges-other-items.result.now in
    adds_at (filter_map_adds (owner_over t c.args.router c.args.address)) (λ cs. c.loop-other.found.items ≡ old ++ cs)
    (λ cs. c.push_some.new.list.items ≡ old ++ cs)
    row c.loop-other.other-index no_edge c.loop-other-test.true c.loop-other.invariant (λ cs was.
    c.in_ok-push_some.ensures
    ∙ ap (λ (l : List RouterId). l ++ cons_option c.owner_over.result []) was
    ∙ append_assoc old cs (cons_option c.owner_over.result [])
    ∙ ap (λ (o : Option RouterId). old ++ (cs ++ cons_option o [])) c.owner_over.ensures)
