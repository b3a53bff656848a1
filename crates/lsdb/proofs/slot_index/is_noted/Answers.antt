use Rattle.std.proofs.Common.{◌∙◌, sym}
use Rattle.lsdb.specs.steps.SlotIndex.{slot_cmp}
use Rattle.lsdb.proofs.RisingLists.{found_by_search}
use Rattle.lsdb.proofs.SlotRanges.{slot_exact}
use Rattle.lsdb.proofs.slot_index.is_noted.Goals as goal

pub returns : goal.returns
returns g c is =
    found_by_search (slot_cmp g.K.Ord.cmp) (slot_exact g.K.Ord.cmp g.met.K.IndexKey.exact) c.args.noted.now c.args.slot.now c.binary_search.result
    c.binary_search.ensures.bound c.binary_search.ensures.position (sym c.is_ok.ensures.value ∙ is)
