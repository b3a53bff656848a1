use Rattle.std.proofs.Common.{◌≡◌, List, length, subst, arith, sym, Result, Ok, Err, is_ok, cond, rules}
use Rattle.std.specs.Prelude.{IsOk}
use Rattle.std.specs.List.Sorted.{IsBinarySearchResult, IsSearchInRange}
use Rattle.lsdb.specs.steps.SlotIndex.{NotesOne, slot_cmp}
use Rattle.lsdb.proofs.RisingLists.{searched}
use Rattle.lsdb.proofs.SlotRanges.{slot_exact, slot_total}
use Rattle.lsdb.proofs.slot_index.note.Goals as goal

where_ok : {T E X : Type 0} (r : Result T E) (done old new : List X) → new ≡ cond (is_ok r) done old → IsOk r → new ≡ done
where_ok (Ok x) done old new is ok = is
where_ok (Err x) done old new is ok = absurd (search rules)

pub returns-clause-noted : goal.returns-clause-noted
returns-clause-noted g c is =
    let order = slot_cmp g.K.Ord.cmp in
    let ok = c.insert.ensures.succeeds (omega (arith, c.len.ensures, c.capacity.ensures, c.if-capacity-len.false)) in
    subst (λ noted. NotesOne order c.args.noted.now.items noted c.args.slot.now)
    (sym (where_ok c.insert.result _ _ _ c.insert.ensures.items ok))
    (searched order (slot_total g.K.Ord.cmp g.met.K.Ord.total) (slot_exact g.K.Ord.cmp g.met.K.IndexKey.exact) c.args.noted.now.items c.args.slot.now
    (Err c.in-Err.at) c.requires
    (subst (λ noted. IsSearchInRange (Err c.in-Err.at) (length noted)) c.deref.ensures.value c.in-Err.ensures.bound)
    (subst (λ noted. IsBinarySearchResult (λ y. order y c.args.slot.now) noted (Err c.in-Err.at)) c.deref.ensures.value c.in-Err.ensures.position))
