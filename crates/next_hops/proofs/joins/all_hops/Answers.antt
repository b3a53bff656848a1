use Rattle.std.proofs.Common.{◌≡◌, ℕ, List, [], ◌∷◌, ◌++◌, take, get_or, sym, ◌∙◌, ap}
use Rattle.std.proofs.lemmas.List.{append-nil, take_more}
use Rattle.std.proofs.lemmas.Grind.{flat_map-append}
use Rattle.area_graph.specs.Rising.{rising}
use Rattle.next_hops.specs.declared.hop.Hop.{Hop}
use Rattle.next_hops.specs.Hop.{hop_cmp}
use Rattle.next_hops.specs.steps.Shared.{hops_in, list_in}
use Rattle.next_hops.proofs.Inserted.{rising-joined}
use Rattle.next_hops.proofs.joins.all_hops.Goals as goal

pub loop-number-preserved : goal.loop-number-preserved
loop-number-preserved g c =
    let lists = c.args.lists.now.keys in
    let numbers = c.args.numbers.now in
    let i = c.loop-number.number-index in
    let n = get_or numbers i 0 in
    let before : List Hop = hops_in lists (take i numbers) in
    let more : hops_in lists (take i numbers ++ n ∷ []) ≡ before ++ list_in lists n =
    flat_map-append (λ m. list_in lists m) (take i numbers) (n ∷ []) ∙ ap (λ (xs : List Hop). before ++ xs) (append-nil (list_in lists n)) in
    c.in_ok-join.ensures.joined
    ∙ ap (λ (xs : List Hop). rising hop_cmp (c.loop-number.hops ++ xs)) c.list_at.ensures
    ∙ ap (λ (xs : List Hop). rising hop_cmp (xs ++ list_in lists n)) c.loop-number.invariant
    ∙ rising-joined before (list_in lists n)
    ∙ ap (λ (xs : List Hop). rising hop_cmp xs) (sym more)
    ∙ ap (λ (ns : List ℕ). rising hop_cmp (hops_in lists ns)) (sym (take_more numbers i 0 c.loop-number-test.true))
