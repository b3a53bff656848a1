-- How much the readers and writers for tests move.
use Rattle.std.specs.Prelude.{ℕ, ◌-◌, min, length, Option, Some, None, Bool, true, false}
use Rattle.std.specs.Option.{option_map}
use Rattle.test_support.specs.declared.doubles.Sink.{Sink}
use Rattle.test_support.specs.declared.doubles.Failing.{Failing}
use Rattle.test_support.specs.declared.doubles.Failing.TheVariants.{WriteErrs, WriteTakesNone, FlushErrs}

-- n, or the limit if that is less
abbrev pub up_to : Option ℕ → ℕ → ℕ
up_to None n = n
up_to (Some limit) n = min n limit

-- the place of a failure, when n bytes before it were moved
abbrev pub nearer : ℕ → Option ℕ → Option ℕ
nearer n place = option_map (λ before. before - n) place

-- whether a write fails
abbrev pub errs_at_writes : Failing → Bool
errs_at_writes WriteErrs = true
errs_at_writes WriteTakesNone = false
errs_at_writes FlushErrs = false

-- whether a flush fails
abbrev pub errs_at_flushes : Failing → Bool
errs_at_flushes WriteErrs = false
errs_at_flushes WriteTakesNone = false
errs_at_flushes FlushErrs = true

-- how many bytes of a text with this length a writer takes: none from the place of the failure on
abbrev pub taken_count : Sink → ℕ → ℕ
taken_count sink size = min (min sink.step size) (sink.fails_at - length sink.taken.items)
