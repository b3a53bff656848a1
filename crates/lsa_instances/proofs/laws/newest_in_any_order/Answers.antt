use Rattle.lsa_instances.proofs.Reordered.{reordered}
use Rattle.lsa_instances.proofs.SameLemmas.{same_in_order}
use Rattle.lsa_instances.proofs.Unique.{only_newest}
use Rattle.lsa_instances.proofs.laws.newest_in_any_order.Goals as goal

pub returns-clause-same : goal.returns-clause-same
returns-clause-same g c = λ flushed reported other newest h n. reordered reported other (same_in_order reported other h) flushed newest n

pub returns-clause-again : goal.returns-clause-again
returns-clause-again g c = λ flushed reported other newest h n. reordered reported other h flushed newest n

pub returns-clause-only : goal.returns-clause-only
returns-clause-only g c = λ flushed reported a b m n. only_newest flushed reported a b m n
