use Rattle.capture_files.proofs.BlockWalk.{parsed_one, never_both, one_flaw}
use Rattle.capture_files.proofs.laws.one_reading_of_pcapng.Goals as goal

pub returns-clause-one : goal.returns-clause-one
returns-clause-one c = parsed_one

pub returns-clause-refused : goal.returns-clause-refused
returns-clause-refused c = never_both

pub returns-clause-first : goal.returns-clause-first
returns-clause-first c = one_flaw
