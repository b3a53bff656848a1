use Rattle.std.proofs.Common.{◌≡◌, ap, rules}
use Rattle.std.specs.Ordering.{is_lt}
use Rattle.std.proofs.lemmas.List.Sorted.{answers_always, ranks_by}
use Rattle.forgotten_instances.specs.steps.Walking.{age_cmp}
use Rattle.forgotten_instances.proofs.Walked.{age_total}
use Rattle.forgotten_instances.proofs.remembering.sorted.Goals as goal

pub returns-clause-order : goal.returns-clause-order
returns-clause-order g c =
    c.in_ok-sort_by.ensures.sorted (λ x y. is_lt (age_cmp x y)) (ranks_by age_total (λ x. x))
    (answers_always _ _ _ (λ q a r k called. let e : r ≡ age_cmp a.0.now a.1.0.now = search rules in ap is_lt e))
