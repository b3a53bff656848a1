use Rattle.ospf_study.proofs.StandardInput.{alone}
use Rattle.ospf_study.proofs.files.is_standard_input.Goals as goal

pub returns-in-len1 : goal.returns-in-len1
returns-in-len1 c = alone c.args.names.now c.eq.result _ c.in-len1.len_at_least c.in-len1.len_below c.eq.ensures
