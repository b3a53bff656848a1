-- Steps towards what the blocks of a section contain.
use Rattle.std.specs.Prelude.{◌≡◌, ◌⊎◌, ◌≤◌, ◌+◌, ℕ, List, length, Option, Some, None, Result, Ok, Err}
use Rattle.capture_files.specs.declared.block.Flaw.{Flaw}
use Rattle.capture_files.specs.declared.fault.CaptureFault.{CaptureFault}
use Rattle.capture_files.specs.declared.fault.CaptureFault.TheVariants as faults
use Rattle.capture_files.specs.declared.part.Part.{Part}
use Rattle.capture_files.specs.declared.part.Part.TheVariants as parts
use Rattle.capture_files.specs.CaptureTexts.{packet_of}
use Rattle.capture_files.specs.Parts.{Content, section, interface, packet, other}
use Rattle.capture_files.specs.Pcapng.{State, HasKept, fault_at}

-- what a block that is read contains
abbrev pub content_of : Part → Content
content_of parts.Section = section
content_of (parts.Described i) = interface i
content_of (parts.Captured frame) = packet (packet_of frame)
content_of parts.Other = other

-- memory ran out, or the block at this offset is malformed
abbrev pub IsStop : ℕ → Result (Option (State × ℕ)) Flaw → CaptureFault → Type 0
IsStop offset found fault =
    (fault ≡ faults.OutOfMemory) ⊎ ((flaw : Flaw) × ((fault ≡ fault_at flaw offset) × (found ≡ Err flaw)))

-- what comes next is a whole block, after which an interface or a packet is kept
abbrev pub IsBlockKept : ℕ → List ℕ → Result (Option (State × ℕ)) Flaw → Type 0
IsBlockKept offset file (Ok (Some block)) = (offset + block.1 ≤ length file) × HasKept block.0
IsBlockKept offset file (Ok None) = ⊥
IsBlockKept offset file (Err flaw) = ⊥
