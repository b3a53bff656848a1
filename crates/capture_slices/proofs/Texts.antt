-- The texts of a run, from those that its steps give.
use Rattle.std.proofs.Common.{◌≡◌, ℕ, List, ◌++◌, length, sym, subst}
use Rattle.std.specs.String.{string_bytes}
use Rattle.capture_slices.specs.Captured.{AreCaptured, AreTextsOf, Given}
use Rattle.capture_slices.specs.declared.capturing.CaptureTexts.{CaptureTexts}
use Rattle.lsa_instances.specs.declared.keeping.FlushedLsas.{FlushedLsas}

-- the lines of files and those of notices are put together, and the others are taken as they are
pub texts_put : {A : Type 0} (flushed : FlushedLsas) (given : Given) (texts : CaptureTexts A) (lines notices warnings dump : List ℕ)
    → AreCaptured A flushed given lines notices warnings dump → string_bytes texts.output ≡ lines ++ notices → texts.contents ≡ length lines
    → string_bytes texts.warnings ≡ warnings → texts.dump.items ≡ dump → AreTextsOf flushed given texts
texts_put {A} flushed given texts lines notices warnings dump captured output contents warned dumped = record {
  lines = lines;
  notices = notices;
  captured = subst (λ text. AreCaptured A flushed given lines notices text texts.dump.items) (sym warned)
      (subst (λ bytes. AreCaptured A flushed given lines notices warnings bytes) (sym dumped) captured);
  output_is = output;
  contents_are = contents;
}
