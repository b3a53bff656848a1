use Rattle.std.proofs.Common.{◌≡◌, ◌∷◌, [], IfOk, ap, subst, ◌∙◌}
use Rattle.lsa_codec.specs.declared.address.RouterId.{RouterId}
use Rattle.lsdb.specs.Slots.{lists_of}
use Rattle.change_lines.specs.ChangeTexts.{ChangesValue}
use Rattle.comparison.specs.Compared.{Compared}
use Rattle.comparison.specs.Named.{changes_for}
use Rattle.study_answers.specs.Missing.{beside}
use Rattle.study_expectations.proofs.change_conditions.router_changes.Goals as goal

pub returns : goal.returns
returns g c =
    let one = c.in_ok-one.one in
    let both : Compared = beside (lists_of c.args.baseline.now) (lists_of c.args.database.now) in
    subst (λ (v : ChangesValue). IfOk c.changes.result (λ found. found ≡ v))
    (ap (λ (b : Compared). changes_for b (one.router ∷ [])) c.in_ok-one.ensures.both
    ∙ ap (λ (r : RouterId). changes_for both (r ∷ [])) c.in_ok-one.ensures.router)
    c.changes.ensures
