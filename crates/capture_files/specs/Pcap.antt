-- Files of the pcap format (draft-ietf-opsawg-pcap, 4 and 5): a header of 24 bytes, and then records, each of which
-- begins where the one before ends.
use Rattle.std.specs.Prelude.{◌≡◌, ◌≤◌, ℕ, ◌+◌, ◌*◌, ◌%◌, Bool, true, false, ◌==◌, ◌||◌, ◌&&◌, not, nat_lt, if◌then◌else◌}
use Rattle.std.specs.Prelude.{List, [], ◌∷◌, length, take, drop, Option, Some, None, option_map, Result, Ok, Err}
use Rattle.std.specs.Option.{option_or}
use Rattle.capture_files.specs.declared.fault.CaptureFault.{CaptureFault}
use Rattle.capture_files.specs.declared.fault.CaptureFault.TheVariants.{NotACapture, ShortHeader, Version, CapturedLength, OutOfMemory}
use Rattle.capture_files.specs.declared.frame.End.{End}
use Rattle.capture_files.specs.declared.frame.End.TheVariants.{Whole, Cut}
use Rattle.capture_files.specs.declared.order.Order.{Order}
use Rattle.capture_files.specs.declared.order.Order.TheVariants.{Big, Little}
use Rattle.capture_files.specs.declared.pcap.Form.{Form}
use Rattle.capture_files.specs.declared.pcap.Fraction.{Fraction}
use Rattle.capture_files.specs.declared.pcap.Fraction.TheVariants.{Micro, Nano}
use Rattle.capture_files.specs.Fields.{number_at}
use Rattle.capture_files.specs.CaptureTexts.{Packet, CaptureText}

-- ---- the header of the file

-- the unit of the fractions of a second, as the magic number says
abbrev pub fraction_of : ℕ → Option Fraction
fraction_of magic = if magic == 0xa1b2c3d4 then Some Micro else if magic == 0xa1b23c4d then Some Nano else None

abbrev pub signature_in : Order → List ℕ → Option (Order × Fraction)
signature_in order file = option_map (λ fraction. (order, fraction)) (fraction_of (number_at order 4 0 file))

-- the byte order of the file is the one in which its magic number is known
abbrev pub signature_of : List ℕ → Option (Order × Fraction)
signature_of file = option_or (signature_in Big file) (signature_in Little file)

-- the type of the link stands in the lower half of the last field
abbrev pub link_of : Order → List ℕ → ℕ
link_of order file = number_at order 4 20 file % 65536

abbrev pub form_of : Order × Fraction → List ℕ → Form
form_of signature file =
    record { order = signature.0; fraction = signature.1; link = record { 0 = link_of signature.0 file } }

abbrev pub signed_header : Option (Order × Fraction) → List ℕ → Result Form CaptureFault
signed_header None file = Err NotACapture
signed_header (Some signature) file =
    if nat_lt (length file) 24 then Err ShortHeader
    else if number_at signature.0 2 4 file == 2 then Ok (form_of signature file)
    else Err Version

-- the form of the records, or why the file is none of the format
unfoldable pub header : List ℕ → Result Form CaptureFault
header file = if nat_lt (length file) 4 then Err NotACapture else signed_header (signature_of file) file

-- ---- records

-- in nanoseconds
abbrev pub length_of_fraction : Fraction → ℕ
length_of_fraction Micro = 1000
length_of_fraction Nano = 1

-- seconds since 1970 and a fraction of a second
abbrev pub moment_of : Form → List ℕ → ℕ
moment_of form bytes =
    number_at form.order 4 0 bytes * 1000000000 + number_at form.order 4 4 bytes * length_of_fraction form.fraction

-- how many bytes of the frame the record has, after its header
abbrev pub captured_of : Form → List ℕ → ℕ
captured_of form bytes = number_at form.order 4 8 bytes

-- how many bytes the frame had
abbrev pub original_of : Form → List ℕ → ℕ
original_of form bytes = number_at form.order 4 12 bytes

-- the most bytes of a frame in a capture
abbrev pub most_captured : ℕ
most_captured = 262144

-- more bytes were captured than there were, or than a capture has
abbrev pub is_malformed : Form → List ℕ → Bool
is_malformed form bytes =
    not (nat_lt (length bytes) 16)
    && (nat_lt (original_of form bytes) (captured_of form bytes) || nat_lt most_captured (captured_of form bytes))

abbrev pub packet_in : Form → List ℕ → Packet
packet_in form bytes = record {
  link = form.link;
  seen = Some (moment_of form bytes);
  bytes = take (captured_of form bytes) (drop 16 bytes);
  original = original_of form bytes;
}

-- the packet of the record at the front of the bytes, where a whole record stands there
abbrev pub record_of : Form → List ℕ → Option Packet
record_of form bytes =
    if nat_lt (length bytes) 16 then None
    else if nat_lt (length bytes) (16 + captured_of form bytes) then None
    else Some (packet_in form bytes)

-- the bytes are whole well-formed records of these packets, one after the other, and then the rest
abbrev pub AreRecords : Form → List ℕ → List Packet → List ℕ → Type 0
AreRecords form bytes [] rest = bytes ≡ rest
AreRecords form bytes (packet ∷ packets) rest =
    (is_malformed form bytes ≡ false) × (record_of form bytes ≡ Some packet)
    × AreRecords form (drop (16 + length packet.bytes) bytes) packets rest

-- ---- the file

abbrev pub end_at : List ℕ → ℕ → End
end_at file offset = if offset == length file then Whole else Cut offset

-- the file has a header, and after it whole records of these packets up to an offset, at which no whole record stands
pub record IsPcap (file : List ℕ) (parsed : CaptureText) : Type 0 where
  pub form : Form
  pub offset : ℕ
  pub headed : header file ≡ Ok form
  pub within : offset ≤ length file
  pub records : AreRecords form (drop 24 file) parsed.packets (drop offset file)
  pub well_formed : is_malformed form (drop offset file) ≡ false
  pub last : record_of form (drop offset file) ≡ None
  pub ended : parsed.end ≡ end_at file offset

-- after a header and whole records the record at this offset is malformed
pub record IsMalformedAt (file : List ℕ) (offset : ℕ) : Type 0 where
  pub form : Form
  pub packets : List Packet
  pub headed : header file ≡ Ok form
  pub within : offset ≤ length file
  pub records : AreRecords form (drop 24 file) packets (drop offset file)
  pub malformed : is_malformed form (drop offset file) ≡ true

-- a whole well-formed record stands right after the header: no memory is asked for before
pub record HasRecord (file : List ℕ) : Type 0 where
  pub form : Form
  pub packet : Packet
  pub headed : header file ≡ Ok form
  pub well_formed : is_malformed form (drop 24 file) ≡ false
  pub first : record_of form (drop 24 file) ≡ Some packet

-- why a file is refused; memory can run out with any file that has a record
abbrev pub IsPcapFault : List ℕ → CaptureFault → Type 0
IsPcapFault file OutOfMemory = Unit {0}
IsPcapFault file (CapturedLength offset) = IsMalformedAt file offset
IsPcapFault file fault = header file ≡ Err fault
