use Rattle.std.proofs.Common.{◌≡◌, length, refl, sym, ◌∙◌}
use Rattle.std.specs.Ordering.{eq_by_cmp}
use Rattle.best_ways.specs.Candidate.{Candidate}
use Rattle.best_ways.proofs.Fronts.{all_taken, front_passes, next_fails, none_after}
use Rattle.best_ways.proofs.merge.count_alike.Goals as goal

pub returns-in-Some-clause-alike : goal.returns-in-Some-clause-alike
returns-in-Some-clause-alike g c =
    front_passes (λ (d : Candidate g.row.K.Denot). eq_by_cmp g.K.Ord.cmp c.args.key d.key) c.in-Some.place c.args.candidates.now
    (sym c.first_other.ensures ∙ c.in-Some.is)

pub returns-in-Some-clause-other : goal.returns-in-Some-clause-other
returns-in-Some-clause-other g c =
    next_fails (λ (d : Candidate g.row.K.Denot). eq_by_cmp g.K.Ord.cmp c.args.key d.key) c.in-Some.place c.args.candidates.now
    (sym c.first_other.ensures ∙ c.in-Some.is)

pub returns-in-None-clause-alike : goal.returns-in-None-clause-alike
returns-in-None-clause-alike g c =
    all_taken (λ (d : Candidate g.row.K.Denot). eq_by_cmp g.K.Ord.cmp c.args.key d.key) (length c.args.candidates.now) c.args.candidates.now
    (sym c.first_other.ensures ∙ c.in-None.is) refl

pub returns-in-None-clause-other : goal.returns-in-None-clause-other
returns-in-None-clause-other g c =
    none_after (λ (d : Candidate g.row.K.Denot). eq_by_cmp g.K.Ord.cmp c.args.key d.key) (length c.args.candidates.now) c.args.candidates.now refl
