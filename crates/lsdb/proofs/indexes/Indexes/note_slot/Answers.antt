use Rattle.lsdb.proofs.indexes.Indexes.note_slot.Goals as goal

pub note_slot-requires-clause-before : goal.note_slot-requires-clause-before
note_slot-requires-clause-before g c = c.requires.before.keys

pub note_slot-requires-2-clause-before : goal.note_slot-requires-2-clause-before
note_slot-requires-2-clause-before g c = c.requires.before.routers

pub note_slot-requires-3-clause-before : goal.note_slot-requires-3-clause-before
note_slot-requires-3-clause-before g c = c.requires.before.prefixes

pub returns : goal.returns
returns g c = record { keys = c.note_slot.ensures; routers = c.note_slot-2.ensures; prefixes = c.note_slot-3.ensures }
