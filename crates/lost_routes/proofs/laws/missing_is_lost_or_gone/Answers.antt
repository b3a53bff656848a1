use Rattle.std.proofs.Common.{⊎_elim}
use Rattle.std.specs.Prelude.{not}
use Rattle.lost_routes.specs.Announced.{is_announced}
use Rattle.lost_routes.specs.Lost.{missing}
use Rattle.lost_routes.proofs.Split.{is_member, kept_or_not, not_both}
use Rattle.lost_routes.proofs.laws.missing_is_lost_or_gone.Goals as goal

pub returns-clause-all : goal.returns-clause-all
returns-clause-all c = λ baseline now was is net. (
  kept_or_not (is_announced baseline now) (missing was is) net,
  λ h. ⊎_elim (is_member (is_announced baseline now) (missing was is) net (is_announced baseline now))
      (is_member (is_announced baseline now) (missing was is) net (λ n. not (is_announced baseline now n))) h,
)

pub returns-clause-once : goal.returns-clause-once
returns-clause-once c = λ baseline now was is net. not_both (is_announced baseline now) (missing was is) net
