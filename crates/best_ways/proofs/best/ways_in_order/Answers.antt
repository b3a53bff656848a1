use Rattle.std.proofs.Common.{◌≡◌, [], ◌∷◌, ◌++◌, List, drop, sym, ap, ◌∙◌, append_assoc}
use Rattle.std.proofs.lemmas.List.{append-nil}
use Rattle.best_ways.specs.Best.{ways_of}
use Rattle.best_ways.specs.Values.{WayValue}
use Rattle.best_ways.proofs.Fronts.{no_more}
use Rattle.best_ways.proofs.best.ways_in_order.Goals as goal

pub loop-place-init : goal.loop-place-init
loop-place-init g c =
    ap (λ (l : List (g.row.K.Denot × WayValue)). l ++ ways_of g.K.Ord.cmp c.args.candidates.now) (sym c.in_ok-ways.ensures.items)

pub loop-place-preserved : goal.loop-place-preserved
loop-place-preserved g c =
    let R = g.K.Ord.cmp in
    let ways = c.loop-place.ways.items in
    let left = ways_of R (drop c.next_alike-end.result.2 c.args.candidates.now) in
    let way = c.in_ok-way.way in
    let e : g.row.K.Denot × WayValue = (c.first.inside.key, way) in
    c.loop-place.invariant ∙ ap (λ (l : List (g.row.K.Denot × WayValue)). ways ++ l) (c.next_alike-end.ensures.ways way c.in_ok-way.ensures)
    ∙ ap (λ (k : g.row.K.Denot). ways ++ (k, way) ∷ left) (sym (ap (λ d. d.key) c.first.view_is))
    ∙ sym (append_assoc ways (e ∷ []) left) ∙ ap (λ (l : List (g.row.K.Denot × WayValue)). l ++ left) (sym c.in_ok-push.ensures.items)

pub returns : goal.returns
returns g c =
    let ways = c.loop-place.ways.items in
    sym (c.loop-place.invariant
    ∙ ap (λ (l : List (g.row.K.Denot × WayValue)). ways ++ l) (no_more g.K.Ord.cmp c.args.candidates.now c.loop-place.place c.loop-place-test.false)
    ∙ append-nil ways)
