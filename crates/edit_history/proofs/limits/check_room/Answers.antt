use Rattle.std.proofs.Common.{sym, ◌∙◌}
use Rattle.lsdb.specs.Slots.{lists_of}
use Rattle.edit_history.proofs.Searches.{key_placed}
use Rattle.edit_history.proofs.RoomForLsas.{taken, full, room}
use Rattle.edit_history.proofs.limits.check_room.Goals as goal

pub returns-then-is_some-clause-refused : goal.returns-then-is_some-clause-refused
returns-then-is_some-clause-refused g c =
    taken (lists_of c.args.database.now) c.args.section c.args.key c.args.byte_count
    (sym (c.is_some.ensures ∙ key_placed c.args.database.now c.args.section c.args.key c.find.result c.find.ensures) ∙ c.if-is_some.true)

pub returns-then-is_full-clause-refused : goal.returns-then-is_full-clause-refused
returns-then-is_full-clause-refused g c =
    full (lists_of c.args.database.now) c.args.section c.args.key c.args.byte_count
    (sym (c.is_some.ensures ∙ key_placed c.args.database.now c.args.section c.args.key c.find.result c.find.ensures) ∙ c.if-is_some.false)
    (sym c.is_full.ensures ∙ c.if-is_full.true)

pub returns-clause-room : goal.returns-clause-room
returns-clause-room g c =
    room (lists_of c.args.database.now) c.args.section c.args.key c.args.byte_count
    (sym (c.is_some.ensures ∙ key_placed c.args.database.now c.args.section c.args.key c.find.result c.find.ensures) ∙ c.if-is_some.false)
    (sym c.is_full.ensures ∙ c.if-is_full.false)
