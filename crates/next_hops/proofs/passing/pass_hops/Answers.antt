use Rattle.std.proofs.Common.{◌≡◌, ℕ, List, sym, map, subst}
use Rattle.std.specs.List.{Contains}
use Rattle.std.proofs.lemmas.Result.{on_ok_weaker}
use Rattle.area_graph.specs.Rising.{rising}
use Rattle.next_hops.specs.declared.hop.Hop.{Hop}
use Rattle.next_hops.specs.Hop.{hop_cmp, extended}
use Rattle.next_hops.specs.steps.Passing.{IsExtended}
use Rattle.next_hops.specs.steps.Table.{GoOn, StayAsTheyAre, kept_list}
use Rattle.next_hops.proofs.Growing.{IsExtended-map, map-IsExtended}
use Rattle.next_hops.proofs.Inserted.{Contains-rising_hops}
use Rattle.next_hops.proofs.Passages.{IsExtended-stays, stays-IsExtended}
use Rattle.next_hops.proofs.Tables.{Hands-same, Stays-Hands}
use Rattle.next_hops.proofs.passing.pass_hops.Goals as goal

pub returns-in-Unchanged : goal.returns-in-Unchanged
returns-in-Unchanged g c =
    let to = c.args.edge.now.to in
    let a = c.args.edge.now.link_data in
    let hops : List Hop = kept_list c.args.table.now c.args.source.now.number in
    let stay : StayAsTheyAre hops = subst (λ passage. GoOn passage hops) c.in-Unchanged.is c.requires.passage in
    on_ok_weaker c.hand.result
    (λ hands. Hands-same (λ (i : ℕ) (h : Hop). (i ≡ to) × Contains hops h) (λ (i : ℕ) (h : Hop). (i ≡ to) × IsExtended hops a h)
    c.args.table.now c.hand.new.self
    (λ i h p. (p.0, IsExtended-stays hops a h stay p.1))
    (λ i h q. (q.0, stays-IsExtended hops a h stay q.1)) hands)
    c.hand.ensures

pub returns-in_ok-number-in-Extended : goal.returns-in_ok-number-in-Extended
returns-in_ok-number-in-Extended g c =
    let to = c.args.edge.now.to in
    let a = c.args.edge.now.link_data in
    let hops : List Hop = kept_list c.args.table.now c.args.source.now.number in
    let longer : List Hop = map (λ h. extended h a) hops in
    let middle = c.extended.new.self in
    let n = c.in_ok-number-in-Extended.number in
    let list : kept_list middle n ≡ rising hop_cmp longer = c.in_ok-number-in-Extended.ensures.list in
    on_ok_weaker c.hand-in-Extended.result
    (λ hands. Stays-Hands (λ (i : ℕ) (h : Hop). (i ≡ to) × IsExtended hops a h) c.args.table.now middle c.hand-in-Extended.new.self
    c.in_ok-number-in-Extended.ensures.stays
    (Hands-same (λ (i : ℕ) (h : Hop). (i ≡ to) × Contains (kept_list middle n) h) (λ (i : ℕ) (h : Hop). (i ≡ to) × IsExtended hops a h)
    middle c.hand-in-Extended.new.self
    (λ i h p. (p.0, IsExtended-map hops a h ((Contains-rising_hops longer h).0 (subst (λ (xs : List Hop). Contains xs h) list p.1))))
    (λ i h q. (q.0, subst (λ (xs : List Hop). Contains xs h) (sym list) ((Contains-rising_hops longer h).1 (map-IsExtended hops a h q.1)))) hands))
    c.hand-in-Extended.ensures
