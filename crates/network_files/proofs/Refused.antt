-- A file that can be read is not refused.
use Rattle.std.proofs.Common.{◌≡◌, ◌∙◌, ℕ, refl, sym, ap, true≢false, Bool, true, false, List}
use Rattle.std.specs.Prelude.{◌≢◌, is_ok}
use Rattle.capture_files.specs.declared.fault.CaptureFault.{CaptureFault}
use Rattle.capture_files.specs.declared.fault.CaptureFault.TheVariants as captures
use Rattle.capture_files.specs.Captures.{IsOfFormat, IsFaultOfFormat}
use Rattle.capture_files.specs.Pcap.{IsPcap, IsPcapFault, IsMalformedAt}
use Rattle.capture_files.specs.Pcapng.{IsPcapng, IsPcapngFault, has_section}
use Rattle.capture_files.specs.CaptureTexts.{CaptureText}
use Rattle.findings.specs.Contents.{ContentLists}
use Rattle.network_files.proofs.Documents.{is_document, no_lack}
use Rattle.network_files.specs.declared.fault.FileFault.{FileFault}
use Rattle.network_files.specs.declared.fault.FileFault.TheVariants as faults
use Rattle.network_files.specs.declared.kind.FileKind.{FileKind}
use Rattle.network_files.specs.declared.kind.FileKind.TheVariants.{Capture, Json, Printed, Walk}
use Rattle.network_files.specs.ParsedFiles.{HasContent, IsRefusalAs}
use Rattle.std.specs.Prelude.{Result, Ok, Err}

not_both : {X E : Type 0} (r : Result X E) (x : X) (e : E) → r ≡ Ok x → r ≡ Err e → ⊥
not_both r x e a b = true≢false (ap is_ok (sym a ∙ b))

-- what is read is not refused, unless memory ran out
abbrev pub IsNotRefused : (List ℕ → CaptureFault → Type 0) → (List ℕ → CaptureText → Type 0) → Type 0
IsNotRefused IsFault IsRead = (file : List ℕ) (parsed : CaptureText) (fault : CaptureFault) → IsRead file parsed → IsFault file fault → fault ≢ captures.OutOfMemory → ⊥

module _ (pcap : (file : List ℕ) (parsed : CaptureText) (offset : ℕ) → IsPcap file parsed → IsMalformedAt file offset → ⊥)
    (pcapng : IsNotRefused IsPcapngFault IsPcapng) where
  no_fault_of_pcap : IsNotRefused IsPcapFault IsPcap
  no_fault_of_pcap file parsed captures.OutOfMemory a b n = n refl
  no_fault_of_pcap file parsed (captures.CapturedLength offset) a b n = pcap file parsed offset a b
  no_fault_of_pcap file parsed captures.NotACapture a b n = not_both _ a.form _ a.headed b
  no_fault_of_pcap file parsed captures.ShortHeader a b n = not_both _ a.form _ a.headed b
  no_fault_of_pcap file parsed captures.Version a b n = not_both _ a.form _ a.headed b
  no_fault_of_pcap file parsed (captures.ByteOrder offset) a b n = not_both _ a.form _ a.headed b
  no_fault_of_pcap file parsed (captures.BlockLength offset) a b n = not_both _ a.form _ a.headed b
  no_fault_of_pcap file parsed (captures.SectionVersion offset) a b n = not_both _ a.form _ a.headed b
  no_fault_of_pcap file parsed (captures.NoInterface offset) a b n = not_both _ a.form _ a.headed b

  no_fault : (is_pcapng : Bool) → IsNotRefused (IsFaultOfFormat is_pcapng) (IsOfFormat is_pcapng)
  no_fault true = pcapng
  no_fault false = no_fault_of_pcap

  pub memory_alone : {A : Type 0} (kind : FileKind) (bytes : List ℕ) (content : ContentLists A) (fault : FileFault)
      → HasContent kind bytes content → IsRefusalAs A kind bytes fault → fault ≡ faults.OutOfMemory
  memory_alone Capture bytes content faults.OutOfMemory a b = refl
  memory_alone Capture bytes content (faults.Capture fault) a b = absurd (no_fault (has_section bytes) bytes a.capture fault a.read b.0 b.1)
  memory_alone Capture bytes content faults.NotJson a b = absurd b
  memory_alone Capture bytes content faults.NoDatabase a b = absurd b
  memory_alone Capture bytes content faults.UnknownKind a b = absurd b
  memory_alone Capture bytes content faults.Compressed a b = absurd b
  memory_alone Json bytes content faults.OutOfMemory a b = refl
  memory_alone Json bytes content (faults.Capture fault) a b = absurd b
  memory_alone Json bytes content faults.NotJson a b = absurd (is_document bytes content a (b a.spelled))
  memory_alone Json bytes content faults.NoDatabase a b = absurd (no_lack bytes content a b.1)
  memory_alone Json bytes content faults.UnknownKind a b = absurd b
  memory_alone Json bytes content faults.Compressed a b = absurd b
  memory_alone Printed bytes content fault a b = b
  memory_alone Walk bytes content faults.OutOfMemory a b = refl
  memory_alone Walk bytes content (faults.Capture fault) a b = absurd b
  memory_alone Walk bytes content faults.NotJson a b = absurd b
  memory_alone Walk bytes content faults.NoDatabase a b = absurd b
  memory_alone Walk bytes content faults.UnknownKind a b = absurd (true≢false (sym a.walk ∙ b.0))
  memory_alone Walk bytes content faults.Compressed a b = absurd (true≢false (sym a.walk ∙ b.0))
