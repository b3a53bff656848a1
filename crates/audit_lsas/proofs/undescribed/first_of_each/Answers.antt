use Rattle.std.proofs.Common.{None}
use Rattle.audit_lsas.specs.declared.naming.Naming.{Naming}
use Rattle.audit_lsas.specs.Undescribed.{first_of_each}
use Rattle.audit_lsas.proofs.Firsts.{first_all, first_more}
use Rattle.audit_lsas.proofs.undescribed.first_of_each.Goals as goal

abbrev no_naming : Naming
no_naming = record { router = record { 0 = 0 }; by = record { 0 = 0 } }

pub loop-naming-preserved : goal.loop-naming-preserved
loop-naming-preserved g c =
    first_more c.loop-naming.found.items _ c.loop-naming.last _ c.args.namings.now c.loop-naming.naming-index no_naming
    (first_of_each None c.args.namings.now) c.loop-naming-test.true c.in_ok-last.ensures c.loop-naming.invariant

pub returns : goal.returns
returns g c =
    first_all c.loop-naming.found.items c.loop-naming.last c.args.namings.now c.loop-naming.naming-index
    (first_of_each None c.args.namings.now) c.loop-naming-test.false c.loop-naming.invariant
