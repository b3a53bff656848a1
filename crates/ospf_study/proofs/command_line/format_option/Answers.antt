use Rattle.std.proofs.Common.{refl}
use Rattle.ospf_study.proofs.FormatOption.{format_rule_by}
use Rattle.ospf_study.proofs.command_line.format_option.Goals as goal

pub returns-clause-rule : goal.returns-clause-rule
returns-clause-rule c =
    format_rule_by c.file_option.result c.value_parser.result _ _ c.value_parser.ensures.others c.value_parser.ensures.given.1
    c.value_parser.ensures.given.2 c.file_option.ensures.rule refl
