use Rattle.frr_text.proofs.PrintedFields.{header_again}
use Rattle.frr_text.proofs.laws.printed_headers_are_read.Goals as goal

pub returns : goal.returns
returns c = header_again
