use Rattle.std.proofs.Common.{◌≡◌, false, take, drop}
use Rattle.std.specs.Prelude.{All}
use Rattle.std.specs.List.{AllZip}
use Rattle.host_io.specs.Watched.{has_failed}
use Rattle.whole_study.specs.steps.Texts.{HasFewBytes, IsTextOf}
use Rattle.whole_study.proofs.inputs.read_studies.Given as goal

abbrev pub invariant-loop-file : goal.invariant-loop-file
invariant-loop-file g l = record {
  whole : AllZip (IsTextOf g.S.Read.remaining) (take l.file-index l.initial.files) l.texts.items;
  within : All HasFewBytes l.texts.items;
  rest : drop l.file-index l.files ≡ drop l.file-index l.initial.files;
  sound : All (λ file. has_failed file.reader ≡ false) l.files;
}
