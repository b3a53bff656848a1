-- What the Options of Hello packets say about their area (RFC 2328, 9.5, A.2, A.3.2; RFC 3101, 2.1).
use Rattle.std.specs.Prelude.{ℕ, ◌==◌, not, if◌then◌else◌, List, bit_and}
use Rattle.lsa_codec.specs.Fields.{byte_at}
use Rattle.lsa_instances.specs.declared.area.AreaKind.{AreaKind}
use Rattle.lsa_instances.specs.declared.area.AreaKind.TheVariants.{Ordinary, Stub, Nssa}

abbrev pub options_of : List ℕ → ℕ
options_of hello = byte_at 30 hello

-- the E bit is 02, the N bit 08
abbrev pub kind_by_options : ℕ → AreaKind
kind_by_options options =
    if not (bit_and options 0x02 == 0) then Ordinary
    else if bit_and options 0x08 == 0 then Stub
    else Nssa
