-- How arguments are written.
use Rattle.std.specs.Prelude.{List, map}
use Rattle.std.specs.List.{join_with_byte}
use Rattle.lsa_codec.specs.Spelling.{address_text}
use Rattle.lsa_codec.specs.declared.address.RouterId.{RouterId}
use Rattle.text_words.specs.Words.{Word}

abbrev pub router_text : RouterId → Word
router_text id = address_text id.0

-- routers, joined by `,` (44)
abbrev pub neighbors_text : List RouterId → Word
neighbors_text routers = join_with_byte 44 (map router_text routers)
