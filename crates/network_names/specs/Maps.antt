-- The two maps that names are kept in.
use Rattle.std.specs.Prelude.{◌≡◌, ℕ, List, option_map}
use Rattle.std.specs.Borrow.{Bor}
use Rattle.std.specs.Ordering.{nat_cmp}
use Rattle.std.specs.Cmp.Lexicographic.{slice_cmp}
use Rattle.std.specs.BTreeMap.{BTreeMap, get, get_by}
use Rattle.text_words.specs.Words.{Word}
use Rattle.network_names.specs.Names.{Named, address_in, name_in}

-- the map has the address of each name, and no others
abbrev pub AreAddresses : List Named → BTreeMap (Bor (List ℕ)) ℕ → Type 0
AreAddresses all addresses = (word : Word) → get_by (λ name. slice_cmp nat_cmp word name.now) addresses ≡ address_in all word

-- the map has the first name of each address, and no others
abbrev pub AreFirstNames : List Named → BTreeMap ℕ (Bor (List ℕ)) → Type 0
AreFirstNames all first_names = (router : ℕ) → option_map (λ name. name.now) (get nat_cmp first_names router) ≡ name_in all router
