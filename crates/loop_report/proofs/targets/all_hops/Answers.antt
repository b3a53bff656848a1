use Rattle.std.proofs.Common.{subst, sym}
use Rattle.std.proofs.lemmas.List.Elements.{All-nil, All-push, All-same}
use Rattle.hop_ends.specs.Owners.{AreGraphsOf, GraphsValue}
use Rattle.loop_report.specs.steps.Targets.{AreHopsOf}
use Rattle.loop_report.proofs.targets.all_hops.Goals as goal

pub loop-routes-init : goal.loop-routes-init
loop-routes-init g c = λ db are. All-same (AreHopsOf db) _ _ c.new-found.ensures.items (All-nil (AreHopsOf db))

pub loop-routes-preserved : goal.loop-routes-preserved
loop-routes-preserved g c = λ db are.
    All-same (AreHopsOf db) _ _ c.in_ok-push.ensures.items
    (All-push (AreHopsOf db) _ _ (c.loop-routes.invariant db are) (c.in_ok-of.ensures db (subst (λ (gs : GraphsValue). AreGraphsOf db gs) (sym c.graphs.ensures) are)))
