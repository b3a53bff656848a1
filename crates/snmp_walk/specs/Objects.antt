-- The objects of a walk: lines NAME = VALUE, and the lines that continue a value.
use Rattle.std.specs.Prelude.{ℕ, ◌==◌, ◌&&◌, Bool, false, List, [], ◌∷◌, codes, Option, is_some, option_map, if◌then◌else◌}
use Rattle.std.specs.List.{cons_option}
use Rattle.snmp_walk.specs.Text.{line_feed, after, first_word, after_word}

-- an object as it is printed: its name, and its value, which may have several lines
pub record Object : Type 0 where
  pub name : List ℕ
  pub value : List ℕ

-- what follows the first word and ` = `
abbrev pub assigned : List ℕ → Option (List ℕ)
assigned text = after (codes " = ") (after_word text)

-- whether an object begins on a line: ` = ` follows its first word
abbrev pub begins_object : List ℕ → Bool
begins_object text = is_some (assigned text)

-- whether a line feed is here, and a line follows on which an object begins
abbrev pub ends_value : List ℕ → Bool
ends_value [] = false
ends_value (byte ∷ text) = byte == line_feed && begins_object text

-- a value goes up to the line feed before the line on which the next object begins, or to the end
unfoldable pub value_in : List ℕ → List ℕ
value_in [] = []
value_in (byte ∷ text) = if ends_value (byte ∷ text) then [] else byte ∷ value_in text

-- the object that begins here, at the start of a line
abbrev pub object_at : List ℕ → Option Object
object_at text = option_map (λ value. record { name = first_word text; value = value_in value }) (assigned text)

-- those that begin at the start of a later line
unfoldable pub later_objects : List ℕ → List Object
later_objects [] = []
later_objects (byte ∷ text) = if byte == line_feed then cons_option (object_at text) (later_objects text) else later_objects text

abbrev pub objects : List ℕ → List Object
objects text = cons_option (object_at text) (later_objects text)
