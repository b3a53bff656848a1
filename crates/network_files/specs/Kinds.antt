-- Kinds of files, by their content.
use Rattle.std.specs.Prelude.{ℕ, Bool, false, ◌==◌, ◌||◌, ◌&&◌, nat_lt, if◌then◌else◌, List, ◌∷◌, length}
use Rattle.std.specs.Option.{is_some}
use Rattle.capture_files.specs.Pcap.{signature_of}
use Rattle.capture_files.specs.Pcapng.{has_section}
use Rattle.network_files.specs.declared.kind.FileKind.{FileKind}
use Rattle.network_files.specs.declared.kind.FileKind.TheVariants.{Capture, Json, Printed, Walk}
use Rattle.frr_text.specs.Headings.{is_printed}
use Rattle.frr_text.specs.Words.{words}
use Rattle.frr_json.specs.ParsedDocuments.{is_printed_json}

-- the file begins with a Section Header Block, or with a magic number of the pcap format in one of the byte orders
abbrev pub is_capture : List ℕ → Bool
is_capture bytes = if nat_lt (length bytes) 4 then false else has_section bytes || is_some (signature_of bytes)

-- the file begins with ID1 and ID2 of gzip (RFC 1952, 2.3.1)
abbrev pub is_compressed : List ℕ → Bool
is_compressed (first ∷ second ∷ bytes) = first == 0x1f && second == 0x8b
is_compressed _ = false

-- a file that is not a capture is what a router prints in JSON, where it begins with a brace after white space; or
-- what a router prints as a text, where its words say so; and else it is read as a walk
abbrev pub kind_of : List ℕ → FileKind
kind_of bytes =
    if is_capture bytes then Capture else if is_printed_json (words bytes) then Json else if is_printed (words bytes) then Printed else Walk
