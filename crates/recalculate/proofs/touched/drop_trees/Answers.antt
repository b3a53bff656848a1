use Rattle.std.proofs.Common.{◌∙◌, IfSome, filter, not, ap, rules, subst, sym}
use Rattle.std.proofs.lemmas.Map.Made.{filter_same_pairs}
use Rattle.edit_history.specs.Session.{state}
use Rattle.routing_table.specs.AreasTrees.{KeptTreesValue, IsSpareOf}
use Rattle.edit_history.specs.Moving.{before, moved_touches}
use Rattle.recalculate.proofs.CostSteps.{reached_database}
use Rattle.recalculate.proofs.TreesSpared.{untouched_changed}
use Rattle.recalculate.proofs.touched.drop_trees.Goals as goal

pub returns-clause-areas : goal.returns-clause-areas
returns-clause-areas g c =
    filter_same_pairs _ (λ area. not (moved_touches c.args.moved area.0 c.args.study.now)) _ (λ k v b w f' t. search rules) _ _ c.retain.ensures.filtered
    ∙ ap (λ (kept : KeptTreesValue). filter (λ area. not (moved_touches c.args.moved area.0 c.args.study.now)) kept.areas) c.trees.view_is
    ∙ untouched_changed (λ area. moved_touches c.args.moved area c.args.study.now) c.cost_change.result _ _ c.keep_changed.ensures.areas
    c.cost_change.ensures.touched

pub returns-clause-spare : goal.returns-clause-spare
returns-clause-spare g c = λ all.
    subst (λ (kept : KeptTreesValue). IfSome kept.spare (IsSpareOf (state c.args.study.now))) (sym c.trees.view_is)
    (c.keep_changed.ensures.spare (state (before c.args.moved c.args.study.now)) (state c.args.study.now)
    (reached_database c.args.study.now c.database.ensures.reached) c.cost_change.ensures.change all)
