use Rattle.std.proofs.Common.{◌∙◌, List, ap, sym, take}
use Rattle.std.specs.List.{list_any}
use Rattle.edit_history.specs.declared.moved.Moved.{Moved}
use Rattle.edit_history.specs.Exchange.{RecordData}
use Rattle.edit_history.specs.Moving.{moved_records}
use Rattle.edit_history.proofs.Cursor.{any_first, any_last}
use Rattle.edit_history.proofs.history.History.moved_records.Goals as goal

pub returns-in-On : goal.returns-in-On
returns-in-On g c = λ test.
    ap (λ (rs : List RecordData). list_any test rs) c.last_of.ensures
    ∙ any_last test c.done_records.result.now c.args.self.now.lists.past c.in-On.count c.done_records.ensures
    ∙ ap (λ (m : Moved). list_any test (moved_records m c.args.self.now.lists)) (sym c.in-On.is)

pub returns-in-Back : goal.returns-in-Back
returns-in-Back g c = λ test.
    ap (λ (rs : List RecordData). list_any test rs) c.first_of.ensures
    ∙ any_first test c.undone_records.result.now c.in-Back.count
    ∙ ap (λ (rs : List RecordData). list_any test (take c.in-Back.count rs)) c.undone_records.ensures
    ∙ ap (λ (m : Moved). list_any test (moved_records m c.args.self.now.lists)) (sym c.in-Back.is)
