-- The blocks of a pcapng file (draft-ietf-opsawg-pcapng, 3): a type, the length of the whole block, what it says, and its
-- length again.
use Rattle.std.specs.Prelude.{ℕ, ◌-◌, ◌%◌, ◌==◌, not, nat_lt, if◌then◌else◌, List, length, take, Option, Some, None, Result, Ok, Err}
use Rattle.capture_files.specs.declared.block.Block.{Block}
use Rattle.capture_files.specs.declared.block.Flaw.{Flaw}
use Rattle.capture_files.specs.declared.block.Flaw.TheVariants.{ByteOrder, BlockLength}
use Rattle.capture_files.specs.declared.order.Order.{Order}
use Rattle.capture_files.specs.declared.order.Order.TheVariants.{Big, Little}
use Rattle.capture_files.specs.Fields.{number_at}

-- the type of a Section Header Block; it reads the same in either byte order
abbrev pub section_header : ℕ
section_header = 0x0a0d0d0a

-- a block, without its location in memory: the byte order of its section, and all of its bytes
pub record BlockText : Type 0 where
  pub order : Order
  pub bytes : List ℕ

abbrev pub block_text : Block → BlockText
block_text block = record { order = block.order; bytes = block.bytes.now }

abbrev pub kind_of : BlockText → ℕ
kind_of block = number_at block.order 4 0 block.bytes

-- the byte order in which the byte-order magic of a section is known (4.1)
abbrev pub parsed_order : List ℕ → Option Order
parsed_order bytes =
    if number_at Big 4 8 bytes == 0x1a2b3c4d then Some Big
    else if number_at Little 4 8 bytes == 0x1a2b3c4d then Some Little
    else None

-- a Section Header Block contains the byte order of its section, which holds up to the next one
abbrev pub order_of : Order → List ℕ → Option Order
order_of order bytes = if number_at Big 4 0 bytes == section_header then parsed_order bytes else Some order

-- the most bytes of a block
abbrev pub most_block : ℕ
most_block = 16777216

abbrev pub sized_block : Order → ℕ → List ℕ → Result (Option BlockText) Flaw
sized_block order total bytes =
    if nat_lt total 12 then Err BlockLength
    else if not (total % 4 == 0) then Err BlockLength
    else if nat_lt most_block total then Err BlockLength
    else if nat_lt (length bytes) total then Ok None
    else if not (number_at order 4 (total - 4) bytes == total) then Err BlockLength
    else Ok (Some (record { order = order; bytes = take total bytes }))

abbrev pub ordered_block : Option Order → List ℕ → Result (Option BlockText) Flaw
ordered_block None bytes = Err ByteOrder
ordered_block (Some order) bytes = sized_block order (number_at order 4 4 bytes) bytes

-- the block at the front of the bytes, where a whole block stands there
unfoldable pub first_block : Order → List ℕ → Result (Option BlockText) Flaw
first_block order bytes = if nat_lt (length bytes) 12 then Ok None else ordered_block (order_of order bytes) bytes
