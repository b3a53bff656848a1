use Rattle.std.proofs.Common.{◌++◌, ◌∙◌, ap, codes, map}
use Rattle.study_words.specs.AuditKinds.{audit_kind_text}
use Rattle.study_hints.specs.ArgumentHints.{or_near}
use Rattle.study_hints.specs.Near.{near}
use Rattle.study_hints.proofs.Pieces.{on_ok}
use Rattle.study_hints.proofs.argument_hint.push_kind_hint.Goals as goal

pub returns : goal.returns
returns g c =
    let old = c.args.text.now.items in
    on_ok c.push_near.result
    (λ pushed. pushed ∙ ap (λ kinds. old ++ or_near (near c.args.word.now (map audit_kind_text kinds)) (codes "see help")) c.all.ensures)
    c.push_near.ensures
