use Rattle.study_json.proofs.Printed.{text_printed, text_read}
use Rattle.study_json.proofs.laws.json_is_read_back.Goals as goal

pub returns-clause-printed : goal.returns-clause-printed
returns-clause-printed c = text_printed

pub returns-clause-read : goal.returns-clause-read
returns-clause-read c = text_read
