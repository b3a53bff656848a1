use Rattle.lsdb.proofs.OneSection.{no_widths, own_widths}
use Rattle.lsdb.proofs.keyed_slots.assert_widths.Goals as goal

pub returns-in-Some : goal.returns-in-Some
returns-in-Some g c = own_widths c.args.slot.now c.in-Some.lsa c.in-Some.is c.key_of.ensures.widths

pub returns-in_default : goal.returns-in_default
returns-in_default g c = no_widths c.args.slot.now c.in_default.is
