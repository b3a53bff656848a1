use Rattle.std.proofs.Common.{◌≡◌, ◌∙◌, ap}
use Rattle.lsdb.specs.Slots.{lists_of}
use Rattle.change_lines.specs.ChangeTexts.{ChangesValue}
use Rattle.comparison.specs.Compared.{Compared}
use Rattle.change_report.proofs.OneRouter.{changes_are, own_lines}
use Rattle.change_report.proofs.router_lines.router_changes.Goals as goal

pub returns-clause-changes : goal.returns-clause-changes
returns-clause-changes g c =
    let both : Compared = record { baseline = lists_of c.args.baseline.now; present = lists_of c.args.present.now } in
    changes_are c.in_ok-one.one both c.args.router c.in_ok-one.ensures.router c.in_ok-one.ensures.both c.in_ok-changes.changes c.in_ok-changes.ensures

pub returns-clause-lines : goal.returns-clause-lines
returns-clause-lines g c =
    let both : Compared = record { baseline = lists_of c.args.baseline.now; present = lists_of c.args.present.now } in
    own_lines c.in_ok-one.one both c.args.router c.in_ok-one.ensures.router c.in_ok-one.ensures.both c.in_ok-changes.changes c.in_ok-changes.ensures
    c.deref.result.now c.in_ok-lines.lines.items (c.deref.ensures.value ∙ ap (λ (v : ChangesValue). v.names) c.changes-2.view_is) c.in_ok-lines.ensures
