use Rattle.std.proofs.Common.{◌≡◌, take}
use Rattle.std.specs.BTreeMap.{get}
use Rattle.capture_report.specs.steps.Newest.{all_newer}
use Rattle.capture_report.specs.steps.PlaceOrder.{derived_cmp}
use Rattle.capture_report.proofs.newer.all_newer.Given as goal

abbrev pub invariant-loop-file : goal.invariant-loop-file
invariant-loop-file g l = l.lsas.items ≡ all_newer (get derived_cmp l.newest) (take l.file-index l.files)
