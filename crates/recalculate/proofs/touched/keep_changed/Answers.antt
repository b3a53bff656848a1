use Rattle.std.proofs.Common.{Option, subst}
use Rattle.std.specs.Prelude.{IfSome}
use Rattle.area_graph.proofs.GraphLemmas.{are_of_area}
use Rattle.unchanged_tables.specs.CostChanges.{IsCostChange}
use Rattle.unchanged_tables.specs.declared.cost_changes.AreaChange.{AreaChange}
use Rattle.recalculate.proofs.touched.keep_changed.Goals as goal

pub returns-in-Some-clause-spare : goal.returns-in-Some-clause-spare
returns-in-Some-clause-spare g c = λ olds news sound change all.
    c.change_area.ensures.spare olds news (are_of_area c.in-Some.made.area news sound)
    (subst (λ (o : Option AreaChange). IfSome o (λ made. IsCostChange made.area made.change olds news)) c.in-Some.is change) all
