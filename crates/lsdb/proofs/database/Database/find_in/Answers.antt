use Rattle.std.proofs.Common.{◌≡◌, subst, None, refl}
use Rattle.std.specs.List.{find}
use Rattle.lsdb.specs.Lists.{has_key}
use Rattle.lsdb.specs.Slots.{Slots, IsFirstSlot, lsas_in}
use Rattle.lsdb.proofs.Searching.{found_in, none_in}
use Rattle.lsdb.proofs.database.Database.find_in.Goals as goal

pub returns-in_default : goal.returns-in_default
returns-in_default g c =
    subst (λ (d : Slots). find (has_key c.args.key) (lsas_in d c.args.section) ≡ None) c.self.view_is
    (none_in c.self.inside.sections.items c.args.section c.index.result.now c.index.result.now.slots c.args.key
    (rw c.self.view_is c.requires) c.index.ensures refl c.in_default.ensures)

pub returns : goal.returns
returns g c =
    subst
    (λ (d : Slots). IsFirstSlot d c.args.section (has_key c.args.key) (record { section = c.args.section; index = c.in-Some.index })) c.self.view_is
    (found_in c.self.inside.sections.items c.args.section c.in-Some.index c.index.result.now c.index.result.now.slots c.args.key
    (rw c.self.view_is c.requires) c.index.ensures refl c.in-Some.ensures)
