use Rattle.frr_text.proofs.PrintedHeadings.{parsed_heading}
use Rattle.frr_text.proofs.PrintedTexts.{parsed_lsa, parsed_word}
use Rattle.frr_text.proofs.laws.printed_lsas_are_read.Goals as goal

pub returns-clause-lsa : goal.returns-clause-lsa
returns-clause-lsa g c = parsed_lsa

pub returns-clause-heading : goal.returns-clause-heading
returns-clause-heading g c = parsed_heading

pub returns-clause-word : goal.returns-clause-word
returns-clause-word g c = parsed_word
