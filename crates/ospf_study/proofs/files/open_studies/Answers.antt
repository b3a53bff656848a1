use Rattle.std.proofs.Common.{◌≡◌, false, subst, sym}
use Rattle.std.specs.Prelude.{All}
use Rattle.std.proofs.lemmas.List.Elements.{All-push}
use Rattle.host_io.specs.Watched.{has_failed}
use Rattle.whole_study.specs.declared.inputs.StudyFile.{StudyFile}
use Rattle.ospf_study.proofs.files.open_studies.Goals as goal

pub opening-preserved : goal.opening-preserved
opening-preserved g c =
    subst (λ xs. All (λ (study : StudyFile _). has_failed study.reader ≡ false) xs) (sym c.in_ok-push.ensures.items)
    (All-push (λ (study : StudyFile _). has_failed study.reader ≡ false) c.opening.studies.items _ c.opening.invariant c.new-reader.ensures.fresh)
