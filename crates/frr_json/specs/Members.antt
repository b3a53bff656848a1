-- The members of a JSON object, by their names.
use Rattle.std.specs.Prelude.{ℕ, List, Option}
use Rattle.json.specs.Json.{Json, Members}
use Rattle.json.specs.Find.{get, as_str, as_number, as_object}
use Rattle.frr_text.specs.Rules.{◌>>=◌}
use Rattle.text_words.specs.Numbers.{number_up_to, hex_up_to}
use Rattle.text_words.specs.Addresses.{address_of}

-- the text of the member of this name
unfoldable pub text_at : List ℕ → Json → Option (List ℕ)
text_at name json = do
  found ← get name json
  as_str found

-- its number, in decimal digits alone, where it is at most max
unfoldable pub number_at : ℕ → List ℕ → Json → Option ℕ
number_at max name json = do
  found ← get name json
  digits ← as_number found
  number_up_to max digits

-- the number that its text spells in hexadecimal
unfoldable pub hex_at : ℕ → List ℕ → Json → Option ℕ
hex_at max name json = do
  text ← text_at name json
  hex_up_to max text

-- the address that its text spells
unfoldable pub address_at : List ℕ → Json → Option ℕ
address_at name json = do
  text ← text_at name json
  address_of text

-- the members of the object that it is
unfoldable pub members_at : List ℕ → Json → Option Members
members_at name json = do
  found ← get name json
  as_object found
