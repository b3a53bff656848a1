-- What one argument of a command means as a prefix.
use Rattle.std.specs.Prelude.{◌==◌, List, [], ◌∷◌, Option, Some, None}
use Rattle.std.specs.List.{slice_split}
use Rattle.lsa_codec.specs.Prefix.{Net, net_of}
use Rattle.text_words.specs.Options.{◌>>=◌}
use Rattle.text_words.specs.Numbers.{number_up_to}
use Rattle.text_words.specs.Addresses.{address_of}
use Rattle.edit_script.specs.Words.{Word}

abbrev pub two_parts : List Word → Option (Word × Word)
two_parts (a ∷ b ∷ []) = Some (a, b)
two_parts _ = None

-- an address, and a number up to 32 for the length of the mask; the bits of the address past the length
-- are 0
unfoldable pub prefix_of_parts : List Word → Option Net
prefix_of_parts parts = do
  part ← two_parts parts
  addr ← address_of part.0
  len ← number_up_to 32 part.1
  net_of (record { 0 = addr }) len

-- the prefix that a word spells, where it spells one: the parts before and after its slash (47)
abbrev pub prefix_of : Word → Option Net
prefix_of word = prefix_of_parts (slice_split (λ byte. byte == 47) word)
