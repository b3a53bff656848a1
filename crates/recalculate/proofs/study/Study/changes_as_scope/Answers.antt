use Rattle.std.proofs.Common.{◌≡◌, ◌∙◌, ℕ, ap, subst, sym}
use Rattle.std.specs.List.{list_any}
use Rattle.edit_history.specs.Exchange.{changes_as_scope}
use Rattle.edit_history.specs.Moving.{before, moved_records}
use Rattle.edit_history.specs.Session.{Session, state}
use Rattle.edit_history.proofs.HistoryLemmas.{moved_spares_as, of_as}
use Rattle.recalculate.proofs.study.Study.changes_as_scope.Goals as goal

pub returns : goal.returns
returns g c = λ none.
    let d = c.self.inside.database in
    let h = c.self.inside.history.lists in
    subst (λ (s : Session). of_as (state s) ≡ of_as (state (before c.args.moved s))) c.self.view_is
    (sym (moved_spares_as d h c.args.moved c.self.invariant.links
    (ap (λ (n : ℕ). list_any (changes_as_scope n) (moved_records c.args.moved h)) (sym c.area_count-areas.ensures)
    ∙ sym c.changes_as_scope.ensures ∙ none)))
