use Rattle.std.proofs.Common.{[], ◌∷◌, ◌++◌, ◌∙◌, filter, ap}
use Rattle.std.specs.Option.{option_copied}
use Rattle.best_ways.specs.Routes.{route_to}
use Rattle.link_report.proofs.PushedLemmas.{made_all, made_more}
use Rattle.study_documents.specs.Compared.{is_change}
use Rattle.study_documents.proofs.TableChanges.{changes_add}
use Rattle.study_documents.proofs.compared.changes_among.Goals as goal

pub loop-prefix-preserved : goal.loop-prefix-preserved
loop-prefix-preserved g c =
    let before = c.args.before.now in
    let now = c.args.now.now in
    let net = c.prefix-item.result in
    made_more (changes_add before now) c.args.prefixes.now c.loop-prefix.prefix-index net c.loop-prefix.changes.items _
    c.loop-prefix-test.true c.prefix-item.is c.loop-prefix.invariant
    (c.in_ok-push_if_changed.ensures
    ∙ ap (λ was. c.loop-prefix.changes.items ++ filter is_change (record { was = was; now = option_copied c.route_to-is.result } ∷ [])) c.route_to-was.ensures
    ∙ ap (λ is. c.loop-prefix.changes.items ++ filter is_change (record { was = route_to before net; now = is } ∷ [])) c.route_to-is.ensures)

pub returns : goal.returns
returns g c =
    made_all (changes_add c.args.before.now c.args.now.now) c.args.prefixes.now c.loop-prefix.prefix-index
    c.loop-prefix.changes.items c.loop-prefix-test.false c.loop-prefix.invariant
