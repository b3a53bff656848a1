use Rattle.std.proofs.Common.{◌++◌, ap, ◌∙◌, Vec, List, ℕ}
use Rattle.lsdb.proofs.Full.{written_full, written_empty}
use Rattle.lsdb.proofs.dump.put_lsas.Goals.{in-Some+in_ok-extend_from_slice, in_default}
use Rattle.lsdb.proofs.dump.put_lsas.Goals as goal

pub loop-slot-preserved : goal.loop-slot-preserved
loop-slot-preserved g c =
    let ps = c.args.slots.now in
    let i = c.loop-slot.slot-index in
    elim c.match-slot.branch [
      | in-Some+in_ok-extend_from_slice w ↦
          let pushed =
          ap (λ (v : Vec ℕ _). v.items) w.out-is ∙ w.in_ok-extend_from_slice.ensures.items
          ∙ ap (λ (t : List ℕ). c.loop-slot.out.items ++ t) w.bytes.ensures.bytes in
          written_full ps i c.slot-item.result w.in-Some.lsa c.args.out.now.items c.loop-slot.out.items c.match-slot.out.items
          c.loop-slot-test.true c.slot-item.is w.in-Some.is pushed c.loop-slot.invariant
      | in_default w ↦
          written_empty ps i c.slot-item.result c.args.out.now.items c.match-slot.out.items c.loop-slot-test.true
          c.slot-item.is w.in_default.is (ap (λ (v : Vec ℕ _). v.items) w.out-is ∙ c.loop-slot.invariant)
    ]
