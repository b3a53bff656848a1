use Rattle.frr_text.proofs.PrintedBodies.{body_again}
use Rattle.frr_text.proofs.laws.printed_bodies_are_read.Goals as goal

pub returns : goal.returns
returns c = body_again
