use Rattle.std.proofs.Common.{◌∙◌, subst}
use Rattle.std.specs.List.Sorted.{IsPermutation}
use Rattle.lsdb.proofs.SlotIndexes.{filled}
use Rattle.lsdb.proofs.slot_index.fill.Goals as goal

pub returns : goal.returns
returns g c =
    let facts = c.sort_unstable.ensures in
    filled g.K.Ord.cmp g.met.K.Ord.total g.met.K.IndexKey.exact g.K.IndexKey.found_by c.args.slots.now c.sort_unstable.new.self.items _ _
    (subst (λ noted. IsPermutation noted c.sort_unstable.new.self.items) c.put_noted.ensures.noted facts.permutation)
    facts.sorted c.requires.fits (facts.capacity ∙ c.put_noted.ensures.room) c.requires.narrow
