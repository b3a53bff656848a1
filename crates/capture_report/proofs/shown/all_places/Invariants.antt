use Rattle.std.proofs.Common.{◌≡◌, take}
use Rattle.capture_report.specs.Unseen.{all_named, all_shown}
use Rattle.capture_report.proofs.shown.all_places.Given as goal

abbrev pub invariant-loop-file : goal.invariant-loop-file
invariant-loop-file g l = (l.named.items ≡ all_named (take l.file-index l.files)) × (l.shown.items ≡ all_shown (take l.file-index l.files))
