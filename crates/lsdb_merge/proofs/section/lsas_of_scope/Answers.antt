use Rattle.std.proofs.Common.{◌≡◌, ◌∙◌, sym, ap, true, false, List, ℕ, ◌++◌, take}
use Rattle.lsa_instances.specs.Newest.{is_of_scope}
use Rattle.lsa_instances.specs.declared.observation.Observation.{Observation}
use Rattle.lsdb_merge.proofs.Growing.{item_more}
use Rattle.lsdb_merge.proofs.Counted.{none_more, one_more}
use Rattle.lsdb_merge.proofs.section.lsas_of_scope.Goals.{then-is_of_scope+in_ok-extend_from_slice, else-is_of_scope}
use Rattle.lsdb_merge.proofs.section.lsas_of_scope.Goals as goal

pub loop-observation-preserved : goal.loop-observation-preserved
loop-observation-preserved g c =
    let all : List (Observation g.row.A.Denot) = c.args.newest.now in
    let i = c.loop-observation.observation-index in
    let x : Observation g.row.A.Denot = c.observation-item.result in
    let more = item_more all i x c.loop-observation-test.true c.observation-item.is in
    let o : List ℕ = c.loop-observation.lsa_bytes.items in
    let k = c.loop-observation.invariant in
    let seen = c.is_of_scope.ensures in
    elim c.if-is_of_scope.branch [
      | then-is_of_scope+in_ok-extend_from_slice w ↦
          let pushed : c.if-is_of_scope.lsa_bytes.items ≡ o ++ x.lsa =
          ap (λ v. v.items) w.lsa_bytes-is ∙ w.in_ok-extend_from_slice.ensures.items ∙ ap (λ (t : List ℕ). o ++ t) w.bytes.ensures.bytes in
          let b : is_of_scope c.args.scope x ≡ true = let t = w.if-is_of_scope in sym seen ∙ t.true in
          rw (more, w.count-is) (one_more c.args.scope (take i all) x c.loop-observation.count o c.if-is_of_scope.lsa_bytes.items b pushed k)
      | else-is_of_scope w ↦
          let b : is_of_scope c.args.scope x ≡ false = let t = w.if-is_of_scope in sym seen ∙ t.false in
          let kept : c.if-is_of_scope.lsa_bytes.items ≡ o = ap (λ v. v.items) w.lsa_bytes-is in
          rw (more, w.count-is, kept) (none_more c.args.scope (take i all) x c.loop-observation.count o b k)
    ]
