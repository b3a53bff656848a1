-- Capture files of either format.
use Rattle.std.specs.Prelude.{ℕ, Bool, true, false, List}
use Rattle.capture_files.specs.declared.fault.CaptureFault.{CaptureFault}
use Rattle.capture_files.specs.CaptureTexts.{CaptureText}
use Rattle.capture_files.specs.Pcap.{IsPcap, IsPcapFault, HasRecord}
use Rattle.capture_files.specs.Pcapng.{has_section, IsPcapng, IsPcapngFault, HasContent}

-- of the pcapng format where the file begins with a Section Header Block, else of the pcap format
abbrev pub IsOfFormat : Bool → List ℕ → CaptureText → Type 0
IsOfFormat true file parsed = IsPcapng file parsed
IsOfFormat false file parsed = IsPcap file parsed

abbrev pub IsCapture : List ℕ → CaptureText → Type 0
IsCapture file parsed = IsOfFormat (has_section file) file parsed

abbrev pub IsFaultOfFormat : Bool → List ℕ → CaptureFault → Type 0
IsFaultOfFormat true file fault = IsPcapngFault file fault
IsFaultOfFormat false file fault = IsPcapFault file fault

abbrev pub IsCaptureFault : List ℕ → CaptureFault → Type 0
IsCaptureFault file fault = IsFaultOfFormat (has_section file) file fault

abbrev pub HasContentOfFormat : Bool → List ℕ → Type 0
HasContentOfFormat true file = HasContent file
HasContentOfFormat false file = HasRecord file

-- memory is asked for only for what the file has: a record, or blocks that describe an interface or have a packet
abbrev pub NeedsMemory : List ℕ → Type 0
NeedsMemory file = HasContentOfFormat (has_section file) file
