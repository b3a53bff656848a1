use Rattle.std.proofs.Common.{◌≡◌, false}
use Rattle.std.specs.Prelude.{All}
use Rattle.host_io.specs.Watched.{has_failed}
use Rattle.ospf_study.proofs.files.open_studies.Given as goal

abbrev pub invariant-opening : goal.invariant-opening
invariant-opening g l = All (λ study. has_failed study.reader ≡ false) l.studies.items
