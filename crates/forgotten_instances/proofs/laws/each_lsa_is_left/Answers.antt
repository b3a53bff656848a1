use Rattle.forgotten_instances.proofs.Oldest.{each_left, untimed_left}
use Rattle.forgotten_instances.proofs.laws.each_lsa_is_left.Goals as goal

pub returns-clause-each : goal.returns-clause-each
returns-clause-each g c = λ reported. each_left reported

pub returns-clause-untimed : goal.returns-clause-untimed
returns-clause-untimed g c = λ reported x e. untimed_left reported x e
