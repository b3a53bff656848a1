use Rattle.std.proofs.Common.{sym, ◌∙◌}
use Rattle.std.proofs.lemmas.Result.{on_ok_weaker}
use Rattle.lsdb.specs.Slots.{item_at, slots_in, head_or_none, lists_of}
use Rattle.departures.proofs.Sections.{added_area, added_as}
use Rattle.departures.proofs.walking.add_section.Goals as goal

pub returns-in_default : goal.returns-in_default
returns-in_default g c =
    on_ok_weaker c.add_as_wide.result
    (added_as (lists_of c.args.database.now) c.args.event.now c.args.number (slots_in c.args.database.now c.args.number)
    (head_or_none (item_at c.args.database.now c.args.number)) c.args.changes.now.items c.add_as_wide.new.changes.items
    (sym c.in_default.is ∙ c.area_in.ensures))
    c.add_as_wide.ensures

pub returns : goal.returns
returns g c =
    on_ok_weaker c.add_area.result
    (added_area (lists_of c.args.database.now) c.args.event.now c.args.number (slots_in c.args.database.now c.args.number)
    (head_or_none (item_at c.args.database.now c.args.number)) c.in-Some.area c.in-Some.field-0-1 c.args.changes.now.items
    c.add_area.new.changes.items (sym c.in-Some.is ∙ c.area_in.ensures))
    c.add_area.ensures
