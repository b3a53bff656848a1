use Rattle.table_changes.specs.Changes.{change_for, nets_of_both}
use Rattle.table_changes.proofs.Counted.{counted}
use Rattle.table_changes.proofs.Having.{nets_have}
use Rattle.table_changes.proofs.laws.counts_are_all.Goals as goal

pub returns-clause-nets : goal.returns-clause-nets
returns-clause-nets c = λ before now net. nets_have before now net

pub returns-clause-counts : goal.returns-clause-counts
returns-clause-counts c = λ rerouted before now. counted (change_for rerouted before now) (nets_of_both before now)
