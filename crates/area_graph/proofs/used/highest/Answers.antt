use Rattle.std.proofs.Common.{◌∙◌, ap, not, sym, ◌++◌, ◌∷◌, [], List, ℕ}
use Rattle.std.specs.List.{list_any}
use Rattle.area_graph.specs.Area.{is_outranked_by}
use Rattle.area_graph.proofs.Outranking.{outranked_by_rank, keep_more, skip_more}
use Rattle.area_graph.proofs.used.highest.Goals as goal
use Rattle.area_graph.proofs.used.highest.Goals.{then-not-is_outranked+in_ok-push, else-not-is_outranked}

pub loop-lsa-preserved : goal.loop-lsa-preserved
loop-lsa-preserved g c =
    let lsas = c.args.lsas.now in
    let reports = c.is_outranked.ensures ∙ outranked_by_rank lsas c.in_ok-ranks.ranks c.in_ok-ranks.ensures c.lsa.result.now
    ∙ ap (λ (l : List ℕ). list_any (is_outranked_by l) lsas) c.lsa.ensures in
    elim c.if-not-is_outranked.branch [
      | then-not-is_outranked+in_ok-push w ↦
          keep_more (λ lsa. not
          (list_any (is_outranked_by lsa) lsas)) lsas c.loop-lsa.lsa-index c.lsa-item.result c.loop-lsa.found.items
          c.if-not-is_outranked.found.items c.loop-lsa-test.true c.lsa-item.is
          (ap not (sym reports ∙ w.if-not-is_outranked.true)) c.loop-lsa.invariant
          (ap (λ v. v.items) w.found-is ∙ w.in_ok-push.ensures.items
          ∙ ap (λ (l : List ℕ). c.loop-lsa.found.items ++ l ∷ []) (w.of.ensures ∙ w.lsa-then-not-is_outranked.ensures))
      | else-not-is_outranked w ↦
          skip_more (λ lsa. not
          (list_any (is_outranked_by lsa) lsas)) lsas c.loop-lsa.lsa-index c.lsa-item.result c.loop-lsa.found.items
          c.if-not-is_outranked.found.items c.loop-lsa-test.true c.lsa-item.is
          (ap not (sym reports ∙ w.if-not-is_outranked.false)) c.loop-lsa.invariant
          (ap (λ v. v.items) w.found-is)
    ]
