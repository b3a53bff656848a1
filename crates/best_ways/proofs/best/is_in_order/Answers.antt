use Rattle.std.proofs.Common.{◌≡◌, Bool, true, false, refl, rules}
use Rattle.std.specs.Prelude.{MatchBool, not}
use Rattle.std.specs.Ordering.{is_lt}
use Rattle.std.proofs.lemmas.List.Sorted.{answers_always}
use Rattle.best_ways.specs.Candidate.{Candidate}
use Rattle.best_ways.proofs.best.is_in_order.Goals as goal

not_false : (b : Bool) → true ≡ not b → b ≡ false
not_false false h = refl
not_false true h = cc

at_true : (P Q : Type 0) (b : Bool) → b ≡ true → MatchBool b P Q → P
at_true P Q true h p = p
at_true P Q false h q = absurd cc

pub returns : goal.returns
returns g c = λ passes k d low below.
    let R = g.K.Ord.cmp in
    not_false _
    (at_true _ _ _ passes
    (c.is_sorted_by.ensures.cases (λ (x : Candidate g.row.K.Denot) (y : Candidate g.row.K.Denot). not (is_lt (R y.key x.key)))
    (answers_always _ _ _ (λ q a r k called. let is : r ≡ not (is_lt (R a.1.0.now.key a.0.now.key)) = search rules in is))) k d below)
