use Rattle.std.proofs.Common.{◌≡◌, false, take, drop}
use Rattle.std.specs.Prelude.{All}
use Rattle.capture_report.specs.Runs.{AreParsed, known}
use Rattle.host_io.specs.Watched.{has_failed}
use Rattle.capture_report.proofs.input.read_files.Given as goal

abbrev pub invariant-loop-file : goal.invariant-loop-file
invariant-loop-file g l = record {
  parsed : AreParsed (known g.R.Read.remaining (take l.file-index l.initial.files)) l.parsed.items;
  rest : drop l.file-index l.files ≡ drop l.file-index l.initial.files;
  sound : All (λ file. has_failed file ≡ false) l.files;
}
