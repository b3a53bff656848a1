use Rattle.std.proofs.Common.{◌≡◌, sym, ap, ◌∙◌}
use Rattle.std.specs.Ordering.{match_ordering}
use Rattle.std.specs.declared.cmp.Ordering.{Ordering}
use Rattle.std.specs.declared.cmp.Ordering.TheVariants.{Less}
use Rattle.best_ways.specs.Candidate.{Candidate}
use Rattle.best_ways.specs.declared.rank.Rank.{Rank}
use Rattle.best_ways.specs.Order.{rank_cmp}
use Rattle.best_ways.specs.steps.Merge.{fresh, merged}
use Rattle.best_ways.proofs.way.Way.merge.Goals as goal

pub returns-in_ok-self-in-Less : goal.returns-in_ok-self-in-Less
returns-in_ok-self-in-Less g c =
    let lower : c.cmp.result ≡ Less = c.in-Less.is in
    let order : c.cmp.result ≡ rank_cmp c.candidate.inside.rank c.rank.result = c.cmp.ensures ∙ c.rank_order.ensures.ranks c.candidate.inside.rank c.rank.result in
    let before : Less ≡ rank_cmp c.args.candidate.now.rank c.args.self.now.rank =
    sym lower ∙ order ∙ ap (λ (d : Candidate g.row.K.Denot). rank_cmp d.rank c.rank.result) c.candidate.view_is
    ∙ ap (λ (r : Rank). rank_cmp c.args.candidate.now.rank r) c.rank.ensures in
    c.in_ok-self-in-Less.ensures
    ∙ ap (λ (o : Ordering). match_ordering o (fresh c.args.candidate.now) (merged c.args.self.now c.args.candidate.now) c.args.self.now) before
