-- What names stand for, and what routers are called.
use Rattle.std.specs.Prelude.{◌≡◌, ℕ, ◌==◌, ◌&&◌, ◌||◌, nat_lt, nat_le, Bool, true, false, List, length, map, Option, Some, option_map, bytes_eq}
use Rattle.std.specs.List.{find, list_all, list_any}
use Rattle.std.specs.Option.{is_some}
use Rattle.std.specs.Char.{is_ascii_alphanumeric, is_ascii_digit}
use Rattle.std.specs.Ordering.{nat_cmp}
use Rattle.std.specs.Cmp.Lexicographic.{slice_cmp}
use Rattle.std.specs.BTreeMap.{get, get_by, keys}
use Rattle.text_words.specs.Words.{Word}
use Rattle.text_words.specs.Addresses.{address_of}
use Rattle.study_words.specs.Reserved.{is_reserved}
use Rattle.network_names.specs.declared.names.Names.{Names}

-- a name, and the address that it stands for
abbrev pub Named : Type 0
Named = Word × ℕ

-- the address that a name stands for: that of the first of these
abbrev pub address_in : List Named → Word → Option ℕ
address_in all word = option_map (λ named. named.1) (find (λ named. bytes_eq named.0 word) all)

-- the name of a router: the first of these for its Router ID
abbrev pub name_in : List Named → ℕ → Option Word
name_in all router = option_map (λ named. named.0) (find (λ named. named.1 == router) all)

-- the address that a word stands for, if it is a name
abbrev pub stands_for : {A : Type 0} → Names A → Word → Option ℕ
stands_for names word = get_by (λ name. slice_cmp nat_cmp word name.now) names.addresses

-- the name of a router, if it has one
abbrev pub called : {A : Type 0} → Names A → ℕ → Option Word
called names router = option_map (λ name. name.now) (get nat_cmp names.first_names router)

-- all names, in rising order of their bytes
abbrev pub names_of : {A : Type 0} → Names A → List Word
names_of names = map (λ name. name.now) (keys names.addresses)

-- the names are these, from the first to the last
pub record AreNames {A : Type 0} (all : List Named) (names : Names A) : Type 0 where
  pub addresses : (word : Word) → stands_for names word ≡ address_in all word
  pub routers : (router : ℕ) → called names router ≡ name_in all router

-- ---- words that may be names

-- a letter, a digit, `.` (46), `-` (45) or `_` (95)
abbrev pub is_name_byte : ℕ → Bool
is_name_byte byte = is_ascii_alphanumeric byte || (byte == 46 || byte == 45 || byte == 95)

abbrev pub has_name_length : Word → Bool
has_name_length word = nat_lt 0 (length word) && nat_le (length word) 255

-- 1 to 255 of these bytes
abbrev pub is_name : Word → Bool
is_name word = has_name_length word && list_all is_name_byte word

abbrev pub are_digits : Word → Bool
are_digits word = list_all is_ascii_digit word

-- an address, digits alone, or a word of the language of studies
abbrev pub reads_otherwise : Word → Bool
reads_otherwise word = is_some (address_of word) || are_digits word || is_reserved word

-- a `:` (58), as addresses of IPv6 have
abbrev pub has_colon : Word → Bool
has_colon word = list_any (λ byte. byte == 58) word

-- a name as a file may have it: it means nothing else in a line, and all that has this name has this address
pub record IsProper (all : List Named) (named : Named) : Type 0 where
  pub name : is_name named.0 ≡ true
  pub apart : reads_otherwise named.0 ≡ false
  pub one_address : address_in all named.0 ≡ Some named.1
