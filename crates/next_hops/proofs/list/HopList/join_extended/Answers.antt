use Rattle.std.proofs.Common.{List, [], ◌∷◌, ◌++◌, map, take, get_or, sym, subst, ◌∙◌, ap}
use Rattle.std.proofs.lemmas.List.{append-nil, append_assoc, map-append, take_more}
use Rattle.area_graph.specs.Rising.{rising}
use Rattle.next_hops.specs.declared.hop.Hop.{Hop}
use Rattle.next_hops.specs.declared.hop.Hop.TheVariants.{Connected}
use Rattle.next_hops.specs.Hop.{hop_cmp, IsSortedHops, extended}
use Rattle.next_hops.proofs.Inserted.{rising-sorted, rising-joined}
use Rattle.next_hops.proofs.list.HopList.join_extended.Goals as goal

pub loop-hop-init : goal.loop-hop-init
loop-hop-init g c =
    let hops = c.args.self.now in
    let sorted : IsSortedHops hops = subst (λ (xs : List Hop). IsSortedHops xs) c.self.view_is c.self.invariant in
    rising-sorted hops sorted ∙ ap (λ (xs : List Hop). rising hop_cmp xs) (sym (append-nil hops))

pub loop-hop-preserved : goal.loop-hop-preserved
loop-hop-preserved g c =
    let hops = c.args.self.now in
    let more = c.args.more.now in
    let over = λ (h : Hop). extended h c.args.address in
    let i = c.loop-hop.hop-index in
    let hop = get_or more i Connected in
    c.in_ok-add.ensures.added
    ∙ ap (λ (h : Hop). rising hop_cmp (c.loop-hop.self ++ h ∷ [])) c.extended.ensures
    ∙ ap (λ (xs : List Hop). rising hop_cmp (xs ++ over hop ∷ [])) c.loop-hop.invariant
    ∙ rising-joined (hops ++ map over (take i more)) (over hop ∷ [])
    ∙ ap (λ (xs : List Hop). rising hop_cmp xs)
    (append_assoc hops (map over (take i more)) (over hop ∷ [])
    ∙ ap (λ (xs : List Hop). hops ++ xs)
    (sym (map-append over (take i more) (hop ∷ [])) ∙ ap (λ (xs : List Hop). map over xs) (sym (take_more more i Connected c.loop-hop-test.true))))
