use Rattle.std.proofs.Common.{◌≡◌, ℕ, ◌+◌, ◌≤◌, ◌∙◌, List, [], ◌∷◌, ◌++◌, length, get_or, take, sym, subst, arith}
use Rattle.std.proofs.lemmas.List.{take_more, take_all}
use Rattle.area_graph.specs.declared.edge.Edge.{Edge}
use Rattle.area_graph.specs.Topology.{row_at}
use Rattle.next_hops.specs.declared.hop.Hop.{Hop}
use Rattle.next_hops.specs.FirstHops.{hops_at}
use Rattle.next_hops.specs.steps.Passing.{IsPassed, arc_of}
use Rattle.next_hops.specs.steps.Table.{Hands, hops_so_far, kept_list}
use Rattle.next_hops.proofs.Growing.{IsPassedOver, IsPassedOver-push, IsPassedOver-pushed}
use Rattle.next_hops.proofs.Tables.{Hands-then, Stays-Hands}
use Rattle.next_hops.proofs.passing.pass_on.Goals as goal

abbrev no_edge : Edge
no_edge = record { to = 0; cost = 0; link_data = record { 0 = 0 } }

pub loop-edge-preserved : goal.loop-edge-preserved
loop-edge-preserved g c =
    let t = c.args.graph.now in
    let tree = c.args.tree.now in
    let begun = c.source_of.new.table in
    let n = c.in_ok-source.source.number in
    let from = c.in_ok-source.source.vertex in
    let hops : List Hop = kept_list begun n in
    let row = c.edges-edge-items.result.now in
    let i = c.loop-edge.edge-index in
    let o = get_or row i no_edge in
    let more : take (i + 1) row ≡ take i row ++ o ∷ [] = take_more row i no_edge c.loop-edge-test.true in
    let still : kept_list c.loop-edge.table n ≡ hops = c.loop-edge.invariant.keeps.same n c.in_ok-source.ensures.within in
    let handed : Hands (λ (j : ℕ) (h : Hop). (j ≡ o.to) × IsPassed t tree hops (arc_of from o) h) c.loop-edge.table c.pass_edge.new.table =
    subst (λ (xs : List Hop). Hands (λ (j : ℕ) (h : Hop). (j ≡ o.to) × IsPassed t tree xs (arc_of from o) h) c.loop-edge.table c.pass_edge.new.table)
    still c.in_ok-pass_edge.ensures in
    subst (λ (xs : List Edge). Hands (λ (j : ℕ) (h : Hop). IsPassedOver t tree hops from xs j h) begun c.pass_edge.new.table) (sym more)
    (Hands-then (λ (j : ℕ) (h : Hop). IsPassedOver t tree hops from (take i row) j h)
    (λ (j : ℕ) (h : Hop). (j ≡ o.to) × IsPassed t tree hops (arc_of from o) h)
    (λ (j : ℕ) (h : Hop). IsPassedOver t tree hops from (take i row ++ o ∷ []) j h)
    begun c.loop-edge.table c.pass_edge.new.table c.loop-edge.invariant handed
    (λ j h r. IsPassedOver-push t tree hops from (take i row) o j h r) (λ j h r. IsPassedOver-pushed t tree hops from (take i row) o j h r))

pub returns : goal.returns
returns g c =
    let t = c.args.graph.now in
    let tree = c.args.tree.now in
    let begun = c.source_of.new.table in
    let source = c.in_ok-source.source in
    let row = c.edges-edge-items.result.now in
    let past : length row ≤ c.loop-edge.edge-index = omega arith in
    let whole : take c.loop-edge.edge-index row ≡ row_at t c.args.from = take_all c.loop-edge.edge-index row past ∙ c.edges-edge-items.ensures.row in
    Stays-Hands (λ (i : ℕ) (h : Hop). IsPassedOver t tree (hops_at (hops_so_far c.args.table.now) c.args.from) c.args.from (row_at t c.args.from) i h)
    c.args.table.now begun c.loop-edge.table c.in_ok-source.ensures.stays
    (subst (λ (v : ℕ). Hands (λ (i : ℕ) (h : Hop). IsPassedOver t tree (hops_at (hops_so_far c.args.table.now) c.args.from) v (row_at t c.args.from) i h)
    begun c.loop-edge.table) c.in_ok-source.ensures.vertex
    (subst (λ (hops : List Hop). Hands (λ (i : ℕ) (h : Hop). IsPassedOver t tree hops source.vertex (row_at t c.args.from) i h) begun c.loop-edge.table)
    c.in_ok-source.ensures.hops
    (subst (λ (xs : List Edge). Hands (λ (i : ℕ) (h : Hop). IsPassedOver t tree (kept_list begun source.number) source.vertex xs i h) begun c.loop-edge.table)
    whole c.loop-edge.invariant)))
