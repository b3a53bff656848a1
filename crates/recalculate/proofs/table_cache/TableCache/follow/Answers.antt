use Rattle.std.proofs.Common.{◌∙◌, ap, subst, sym}
use Rattle.edit_history.specs.Session.{state}
use Rattle.routing_table.specs.AreasTrees.{routers_of}
use Rattle.routing_table.specs.KeptTrees.{less_touched}
use Rattle.recalculate.specs.Planning.{CacheValue, IsCacheOf}
use Rattle.edit_history.specs.Moving.{before, moved_touches}
use Rattle.recalculate.proofs.Touches.{graphs_stay, untouched_kept}
use Rattle.recalculate.proofs.table_cache.TableCache.follow.Goals as goal

pub returns-clause-kept : goal.returns-clause-kept
returns-clause-kept g c =
    untouched_kept c.args.moved c.args.study.now c.self.inside.trees c.drop_trees.new.trees c.drop_trees.ensures.areas
    ∙ ap (λ (v : CacheValue). less_touched (λ area. moved_touches c.args.moved area c.args.study.now) (routers_of v.trees)) c.self.view_is

pub returns-clause-cache : goal.returns-clause-cache
returns-clause-cache g c = λ all.
    let was = subst (λ (v : CacheValue). IsCacheOf (state (before c.args.moved c.args.study.now)) v) (sym c.self.view_is) all in
    record {
      trees = graphs_stay c.args.moved c.args.study.now c.self.inside.trees c.drop_trees.new.trees c.drop_trees.ensures.areas
          c.drop_trees.ensures.reached c.drop_trees.ensures.spare was.trees;
      externals = c.drop_externals.ensures was.externals;
      table = tt;
    }
