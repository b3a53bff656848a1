-- How routers are shown: by their names.
use Rattle.std.specs.Prelude.{ℕ, List, Option, unwrap_or}
use Rattle.lsa_codec.specs.declared.address.RouterId.{RouterId}
use Rattle.lsa_codec.specs.Spelling.{address_text}
use Rattle.text_words.specs.Words.{Word}

-- the name of each router that has one, by its Router ID
abbrev pub Called : Type 0
Called = ℕ → Option Word

-- a router's name; where it has none, its Router ID in dotted form
abbrev pub shown : Called → RouterId → List ℕ
shown called router = unwrap_or (called router.0) (address_text router.0)

-- how things of a type are written, where routers have these names
abbrev pub Text : Type 0 → Type 0
Text X = Called → X → List ℕ
