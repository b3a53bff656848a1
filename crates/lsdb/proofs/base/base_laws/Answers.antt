use Rattle.lsdb.proofs.TextSize.{base_size}
use Rattle.lsdb.proofs.BaseParts.{base_loaded_again}
use Rattle.lsdb.proofs.base.base_laws.Goals as goal

pub returns : goal.returns
returns c = record { complete = base_loaded_again; length = base_size }
