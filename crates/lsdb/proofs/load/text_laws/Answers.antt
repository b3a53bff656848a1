use Rattle.lsdb.proofs.DumpText.{loaded_again, one_text}
use Rattle.lsdb.proofs.TextSize.{text_size}
use Rattle.lsdb.proofs.load.text_laws.Goals as goal

pub returns : goal.returns
returns c = record { complete = loaded_again; one_text = one_text; length = text_size }
