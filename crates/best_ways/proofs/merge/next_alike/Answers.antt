use Rattle.std.proofs.Common.{◌≡◌, ◌+◌, ◌∷◌, List, true, false, drop, take, sym, ap, subst, ◌∙◌}
use Rattle.std.specs.Prelude.{All, IfSome, slice_get}
use Rattle.std.specs.Ordering.{eq_by_cmp}
use Rattle.best_ways.specs.Best.{way_of, ways_of}
use Rattle.best_ways.specs.Candidate.{Candidate}
use Rattle.best_ways.proofs.Fronts.{next_ways}
use Rattle.best_ways.proofs.merge.next_alike.Goals as goal

pub returns-clause-ways : goal.returns-clause-ways
returns-clause-ways g c way is =
    let R = g.K.Ord.cmp in
    let cs = c.args.candidates.now in
    let x = c.index-candidates-place.result in
    let n = c.count_alike-count.result in
    let key : c.first.inside.key ≡ x.key = ap (λ d. d.key) c.first.view_is in
    let others : c.split_at.result.1.now ≡ drop (c.args.place + 1) cs = c.split_at.ensures.back in
    let alike : All (λ d. eq_by_cmp R x.key d.key ≡ true) (take n (drop (c.args.place + 1) cs)) =
    subst (λ (k : g.row.K.Denot). All (λ (d : Candidate g.row.K.Denot). eq_by_cmp R k d.key ≡ true) (take n (drop (c.args.place + 1) cs))) key
    (subst (λ (l : List (Candidate g.row.K.Denot)). All (λ (d : Candidate g.row.K.Denot). eq_by_cmp R c.first.inside.key d.key ≡ true) (take n l)) others
    c.count_alike-count.ensures.alike) in
    let other : IfSome (slice_get (drop n (drop (c.args.place + 1) cs)) 0) (λ d. eq_by_cmp R x.key d.key ≡ false) =
    subst (λ (k : g.row.K.Denot). IfSome (slice_get (drop n (drop (c.args.place + 1) cs)) 0) (λ (d : Candidate g.row.K.Denot). eq_by_cmp R k d.key ≡ false)) key
    (subst (λ (l : List (Candidate g.row.K.Denot)). IfSome (slice_get (drop n l) 0) (λ (d : Candidate g.row.K.Denot). eq_by_cmp R c.first.inside.key d.key ≡ false)) others
    c.count_alike-count.ensures.other) in
    next_ways g.met.K.Ord.total c.requires.exact cs c.args.place n x c.requires.within c.index-candidates-place.is c.requires.order alike other
    way (is ∙ ap (λ (l : List (Candidate g.row.K.Denot)). way_of (x ∷ l)) (c.split_at-2.ensures.front ∙ ap (take n) others))
