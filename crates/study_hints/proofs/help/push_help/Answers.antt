use Rattle.std.proofs.Common.{◌++◌, ◌∙◌, ap, map, sym}
use Rattle.std.specs.Prelude.{flat_map}
use Rattle.study_hints.specs.Help.{command_line, commands, condition_lines, help_lines, with_end}
use Rattle.study_hints.proofs.Pieces.{on_ok, then_more}
use Rattle.study_hints.proofs.help.push_help.Goals as goal

pub returns-in_ok-push_commands-in-None : goal.returns-in_ok-push_commands-in-None
returns-in_ok-push_commands-in-None g c =
    let old = c.args.text.now.items in
    on_ok c.push_conditions.result (λ pushed. pushed ∙ ap (λ word. old ++ flat_map with_end (help_lines word)) (sym c.in-None.is))
    (then_more c.push_conditions.result with_end old _ _ (map command_line commands) condition_lines
    c.in_ok-push_commands-in-None.ensures c.push_conditions.ensures)
