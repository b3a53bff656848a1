use Rattle.std.proofs.Common.{◌≡◌, ◌-◌, length, arith, subst, rules}
use Rattle.lsdb.specs.Lists.{areas_of}
use Rattle.lsdb.specs.Slots.{Slots, lists_of}
use Rattle.lsdb.specs.steps.View.{slots_of}
use Rattle.lsdb.proofs.Areas.{areas_count, heads_seen}
use Rattle.lsdb.proofs.database.Database.area_count.Goals as goal

pub returns : goal.returns
returns g c =
    let ss = c.self.inside.sections.items in
    let count : c.len.result ≡ length ss = search rules in
    subst (λ (d : Slots). c.len.result - 1 ≡ length (areas_of (lists_of d))) c.self.view_is
    (omega (arith, areas_count (lists_of (slots_of ss)) c.self.invariant.sound.heads, heads_seen ss, count))
