-- Rows of lists, as `show ip ospf database` prints them.
use Rattle.std.specs.Prelude.{ℕ, List, [], ◌∷◌, ◌++◌, Option, Some, None}
use Rattle.findings.specs.declared.part.Part.{Part}
use Rattle.findings.specs.declared.part.Part.TheVariants as contents
use Rattle.text_words.specs.Numbers.{number_up_to}
use Rattle.text_words.specs.Addresses.{address_of}
use Rattle.frr_text.specs.declared.label.Label.TheVariants as label
use Rattle.frr_text.specs.Labels.{value_after}
use Rattle.frr_text.specs.Numbers.{marked_up_to}
use Rattle.frr_text.specs.Rules.{◌>>=◌}
use Rattle.frr_text.specs.Words.{Word}

-- what follows the fields of a row: Link State ID, Advertising Router, LS age, LS sequence number and LS checksum, one
-- beside the other
unfoldable pub after_row : List Word → Option (List Word)
after_row text = do
  id ← value_after address_of label.Nothing text
  adv ← value_after address_of label.Nothing id.1
  age ← value_after (number_up_to 0xffff) label.Nothing adv.1
  sequence ← value_after (marked_up_to 0xffffffff) label.Nothing age.1
  checksum ← value_after (marked_up_to 0xffff) label.Nothing sequence.1
  Some checksum.1

module _ {A : Type 0} where
  abbrev pub row_from : Option (List Word) → List (Part A)
  row_from None = []
  row_from (Some rest) = contents.Listed ∷ []

  -- the row that begins here, if one does
  unfoldable pub rows_at : List Word → List (Part A)
  rows_at text = row_from (after_row text)

  -- all rows of a text
  unfoldable pub rows_in : List Word → List (Part A)
  rows_in [] = []
  rows_in (word ∷ text) = rows_at (word ∷ text) ++ rows_in text
