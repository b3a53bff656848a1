use Rattle.std.proofs.Common.{◌≡◌, ◌∙◌, ◌+◌, ◌++◌, [], ◌∷◌, sym, subst, ap, arith, length, length-append, vec_capacity}
use Rattle.lsdb.proofs.SlotIndexes.{NotedSoFar, noted_none, noted_one}
use Rattle.lsdb.proofs.slot_index.put_noted.Goals.{in-Some, in_default}
use Rattle.lsdb.proofs.slot_index.put_noted.Goals as goal

pub loop-index-preserved : goal.loop-index-preserved
loop-index-preserved g c = elim c.match-noted_at.branch [
  | in-Some w ↦
      let more : c.match-noted_at.noted.items ≡ c.loop-index.noted.items ++ w.in-Some.slot ∷ [] =
      ap (λ v. v.items) w.noted-is ∙ w.push_reserved.ensures.items in
      record {
        so_far =
            subst (λ done. NotedSoFar g.K.IndexKey.found_by c.args.slots.now (c.loop-index.index + 1) done) (sym more)
            (noted_one g.K.IndexKey.found_by c.args.slots.now c.loop-index.index (c.loop-index.index + 1) c.index-slots-index.result w.in-Some.slot
            c.loop-index.noted.items (omega arith) (omega arith) c.index-slots-index.is (sym c.noted_at.ensures ∙ w.in-Some.is)
            c.loop-index.invariant.so_far);
        few = omega (arith, ap length more, length-append c.loop-index.noted.items (w.in-Some.slot ∷ []), c.loop-index.invariant.few);
        room = omega (arith, ap (λ v. vec_capacity v) w.noted-is, w.push_reserved.ensures.capacity, c.loop-index.invariant.room);
        narrow = c.requires.narrow;
      }
  | in_default w ↦
      let same : c.match-noted_at.noted.items ≡ c.loop-index.noted.items = ap (λ v. v.items) w.noted-is in
      record {
        so_far =
            subst (λ done. NotedSoFar g.K.IndexKey.found_by c.args.slots.now (c.loop-index.index + 1) done) (sym same)
            (noted_none g.K.IndexKey.found_by c.args.slots.now c.loop-index.index (c.loop-index.index + 1) c.index-slots-index.result
            c.loop-index.noted.items (omega arith) (omega arith) c.index-slots-index.is (sym c.noted_at.ensures ∙ w.in_default.is)
            c.loop-index.invariant.so_far);
        few = omega (arith, ap length same, c.loop-index.invariant.few);
        room = omega (arith, ap (λ v. vec_capacity v) w.noted-is, c.loop-index.invariant.room);
        narrow = c.requires.narrow;
      }
]
