use Rattle.std.proofs.Common.{◌++◌, ◌∙◌, ap, codes, map, sym}
use Rattle.edit_script.specs.Words.{words}
use Rattle.network_names.specs.Names.{stands_for}
use Rattle.study_arguments.specs.Fault.{fault_at}
use Rattle.study_words.specs.StudyWords.{study_text}
use Rattle.study_hints.specs.ArgumentHints.{or_near}
use Rattle.study_hints.specs.Hints.{command_hint}
use Rattle.study_hints.specs.Near.{near}
use Rattle.study_hints.proofs.Pieces.{on_ok}
use Rattle.study_hints.proofs.hint.push_command_hint.Goals as goal

pub returns-in-None : goal.returns-in-None
returns-in-None g c =
    let old = c.args.text.now.items in
    let known = map (λ name. name.now) c.args.known.now in
    let fault = fault_at c.args.fault.now in
    on_ok c.push_near.result
    (λ pushed. pushed ∙ ap (λ those. old ++ or_near (near fault.1 (map study_text those)) (codes "see help")) c.commands.ensures
    ∙ ap (λ word. old ++ command_hint (stands_for c.args.names.now) known word (words c.args.line.now) fault.0 fault.1) (sym c.in-None.is))
    c.push_near.ensures
