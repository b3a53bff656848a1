-- What a packet capture contains.
use Rattle.std.specs.Prelude.{◌≡◌, ℕ, List, [], ◌∷◌, ◌++◌}
use Rattle.capture_files.specs.declared.frame.End.{End}
use Rattle.capture_files.specs.declared.frame.End.TheVariants as ends
use Rattle.capture_files.specs.Captures.{IsCapture}
use Rattle.capture_files.specs.CaptureTexts.{CaptureText, Packet}
use Rattle.findings.specs.declared.finding.Finding.TheVariants.{Cut}
use Rattle.findings.specs.declared.part.Part.{Part}
use Rattle.findings.specs.declared.part.Part.TheVariants as contents
use Rattle.findings.specs.Contents.{ContentLists, content_of}
use Rattle.ospf_packets.specs.ParsedFrames.{parsed_in}

module _ {A : Type 0} where
  -- what is missing at the end of a capture
  abbrev pub parts_at : End → List (Part A)
  parts_at ends.Whole = []
  parts_at (ends.Cut offset) = contents.Finding (Cut offset) ∷ []

  -- what the frames contain, and after it what is missing at the end
  abbrev pub parts_in : List Packet → End → List (Part A)
  parts_in frames end = parsed_in frames ++ parts_at end

-- the file is a capture that contains this
pub record HasContent {A : Type 0} (bytes : List ℕ) (content : ContentLists A) : Type 0 where
  pub capture : CaptureText
  pub read : IsCapture bytes capture
  pub whole : content ≡ content_of (parts_in capture.packets capture.end)
