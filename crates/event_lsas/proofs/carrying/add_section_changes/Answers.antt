use Rattle.std.proofs.Common.{sym, ◌∙◌}
use Rattle.std.proofs.lemmas.Result.{on_ok_weaker}
use Rattle.lsdb.specs.Slots.{item_at, slots_in, head_or_none, lists_of}
use Rattle.event_lsas.proofs.Turns.{none_as_wide, of_chosen}
use Rattle.event_lsas.proofs.carrying.add_section_changes.Goals as goal

pub returns-in_default : goal.returns-in_default
returns-in_default g c =
    none_as_wide (lists_of c.args.database.now) c.args.edit c.args.number (slots_in c.args.database.now c.args.number)
    (head_or_none (item_at c.args.database.now c.args.number)) c.args.changes.now.items (sym c.in_default.is ∙ c.area_in.ensures)

pub returns : goal.returns
returns g c =
    on_ok_weaker c.add_area_changes.result
    (of_chosen (lists_of c.args.database.now) c.args.edit c.args.number (slots_in c.args.database.now c.args.number)
    (head_or_none (item_at c.args.database.now c.args.number)) c.in-Some.area c.in-Some.field-0-1 c.in_ok-chosen.chosen
    c.args.changes.now.items c.add_area_changes.new.changes.items (sym c.in-Some.is ∙ c.area_in.ensures) c.in_ok-chosen.ensures)
    c.add_area_changes.ensures
