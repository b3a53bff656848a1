-- Files of the pcapng format (draft-ietf-opsawg-pcapng, 3.2 and 4): sections of blocks, each of which begins where the
-- one before ends.
use Rattle.std.specs.Prelude.{◌≡◌, ◌≢◌, ◌≤◌, ◌⊎◌, ℕ, ◌==◌, Bool, true, false, nat_lt, if◌then◌else◌, List, [], ◌∷◌, ◌++◌, length, drop, Option, Some, None, Result, Ok, Err}
use Rattle.capture_files.specs.declared.block.Flaw.{Flaw}
use Rattle.capture_files.specs.declared.block.Flaw.TheVariants as flaws
use Rattle.capture_files.specs.declared.fault.CaptureFault.{CaptureFault}
use Rattle.capture_files.specs.declared.fault.CaptureFault.TheVariants as faults
use Rattle.capture_files.specs.declared.interface.Interface.{Interface}
use Rattle.capture_files.specs.declared.order.Order.{Order}
use Rattle.capture_files.specs.declared.order.Order.TheVariants.{Big}
use Rattle.capture_files.specs.declared.reading.Reading.{Reading}
use Rattle.std.specs.Prelude.{map}
use Rattle.capture_files.specs.Fields.{number_at}
use Rattle.capture_files.specs.CaptureTexts.{Packet, CaptureText, packet_of}
use Rattle.capture_files.specs.Pcap.{end_at}
use Rattle.capture_files.specs.Blocks.{BlockText, section_header, first_block}
use Rattle.capture_files.specs.Parts.{Content, section, interface, packet, other, parsed_by}

-- between two blocks: the byte order and the interfaces of the section, and the packets of the file so far
pub record State : Type 0 where
  pub order : Order
  pub interfaces : List Interface
  pub packets : List Packet

abbrev pub state_of : {A : Type 0} → Reading A → State
state_of reading =
    record { order = reading.order; interfaces = reading.interfaces.items; packets = map packet_of reading.frames.items }

-- before the first block, which shows the byte order
abbrev pub start : State
start = record { order = Big; interfaces = []; packets = [] }

-- after a block in this byte order; a new section has no interface yet
abbrev pub after : State → Order → Content → State
after s order section = record { order = order; interfaces = []; packets = s.packets }
after s order (interface i) = record { order = order; interfaces = s.interfaces ++ i ∷ []; packets = s.packets }
after s order (packet p) = record { order = order; interfaces = s.interfaces; packets = s.packets ++ p ∷ [] }
after s order other = record { order = order; interfaces = s.interfaces; packets = s.packets }

abbrev pub past : State → BlockText → Result Content Flaw → Result (Option (State × ℕ)) Flaw
past s block (Err flaw) = Err flaw
past s block (Ok parsed) = Ok (Some (after s block.order parsed, length block.bytes))

abbrev pub past_first : State → Result (Option BlockText) Flaw → Result (Option (State × ℕ)) Flaw
past_first s (Err flaw) = Err flaw
past_first s (Ok None) = Ok None
past_first s (Ok (Some block)) = past s block (parsed_by s.interfaces block)

-- what comes after the block at the front of the bytes, and how many bytes it has; none where no whole block stands there
unfoldable pub next : State → List ℕ → Result (Option (State × ℕ)) Flaw
next s bytes = past_first s (first_block s.order bytes)

-- from one state on the bytes are whole blocks, each with the state after it and its length, and then the rest
abbrev pub AreBlocks : State → List ℕ → List (State × ℕ) → State → List ℕ → Type 0
AreBlocks s bytes [] last rest = (s ≡ last) × (bytes ≡ rest)
AreBlocks s bytes (block ∷ blocks) last rest =
    (next s bytes ≡ Ok (Some block)) × AreBlocks block.0 (drop block.1 bytes) blocks last rest

-- the file is whole blocks up to an offset, and this is the state there
pub record Reaches (file : List ℕ) (last : State) (offset : ℕ) : Type 0 where
  pub blocks : List (State × ℕ)
  pub within : offset ≤ length file
  pub whole : AreBlocks start file blocks last (drop offset file)

-- the file begins with a Section Header Block
abbrev pub has_section : List ℕ → Bool
has_section file = if nat_lt (length file) 4 then false else number_at Big 4 0 file == section_header

-- the packets of the whole blocks up to an offset, at which no whole block stands
pub record IsPcapng (file : List ℕ) (parsed : CaptureText) : Type 0 where
  pub last : State
  pub offset : ℕ
  pub headed : has_section file ≡ true
  pub reached : Reaches file last offset
  pub stopped : next last (drop offset file) ≡ Ok None
  pub packets : parsed.packets ≡ last.packets
  pub ended : parsed.end ≡ end_at file offset

-- after whole blocks the block at this offset is malformed
pub record IsFlawIn (file : List ℕ) (offset : ℕ) (flaw : Flaw) : Type 0 where
  pub last : State
  pub headed : has_section file ≡ true
  pub reached : Reaches file last offset
  pub malformed : next last (drop offset file) ≡ Err flaw

abbrev pub fault_at : Flaw → ℕ → CaptureFault
fault_at flaws.ByteOrder offset = faults.ByteOrder offset
fault_at flaws.BlockLength offset = faults.BlockLength offset
fault_at flaws.SectionVersion offset = faults.SectionVersion offset
fault_at flaws.BlockCaptured offset = faults.CapturedLength offset
fault_at flaws.NoInterface offset = faults.NoInterface offset

-- whether an interface was described in the section, or a packet found in the file
abbrev pub HasKept : State → Type 0
HasKept s = (s.interfaces ≢ []) ⊎ (s.packets ≢ [])

-- whole blocks at the front of the file describe an interface or have a packet: no memory is asked for before
pub record HasContent (file : List ℕ) : Type 0 where
  pub last : State
  pub offset : ℕ
  pub headed : has_section file ≡ true
  pub reached : Reaches file last offset
  pub kept : HasKept last

-- why a file is refused; memory can run out with any file that has content
abbrev pub IsPcapngFault : List ℕ → CaptureFault → Type 0
IsPcapngFault file fault =
    (fault ≡ faults.OutOfMemory) ⊎ (((fault ≡ faults.NotACapture) × (has_section file ≡ false))
    ⊎ ((flaw : Flaw) × (offset : ℕ) × ((fault ≡ fault_at flaw offset) × IsFlawIn file offset flaw)))
