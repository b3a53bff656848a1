use Rattle.lsa_instances.proofs.Standing.{left_out, same}
use Rattle.lsa_instances.proofs.Looking.{at_max_age}
use Rattle.std.proofs.Common.{refl}
use Rattle.lsa_instances.proofs.laws.flushed_lsas.Goals as goal

pub returns-clause-left_out : goal.returns-clause-left_out
returns-clause-left_out g c = λ reported x n. left_out reported x n

pub returns-clause-kept : goal.returns-clause-kept
returns-clause-kept g c = λ reported newest n k d l. n.whole k d l refl

pub returns-clause-same : goal.returns-clause-same
returns-clause-same g c = λ reported x n f. same reported x n f

pub returns-clause-max_age : goal.returns-clause-max_age
returns-clause-max_age g c = λ reported x n f. at_max_age reported x n f
