use Rattle.std.proofs.Common.{◌≡◌, ◌-◌, length}
use Rattle.capture_files.specs.Interfaces.{option_among}
use Rattle.capture_files.proofs.options.option_of.Given as goal

abbrev pub invariant-options : goal.invariant-options
invariant-options l =
    option_among (length l.options - l.counter) l.order l.code l.rest ≡ option_among (length l.options) l.order l.code l.options
