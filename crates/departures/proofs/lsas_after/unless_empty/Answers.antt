use Rattle.std.proofs.Common.{ℕ, List, Option, Some, sym, ap, ◌∙◌}
use Rattle.std.proofs.lemmas.Bool.{cond-false, ne_eqb}
use Rattle.lsa_remaking.specs.Relinking.{count_left}
use Rattle.departures.proofs.lsas_after.unless_empty.Goals as goal

pub returns-in-Ok : goal.returns-in-Ok
returns-in-Ok g c =
    ap (λ (new : List ℕ). let o : Option (List ℕ) = Some new in o) c.in-Ok.ensures.made
    ∙ sym (cond-false _ _ _ (ne_eqb (count_left c.args.links.now) 0 (λ e. c.if-count_left-eq0.false (c.count_left.ensures ∙ e))))
