-- Each name of a file stands for one address.
use Rattle.std.proofs.Common.{◌≡◌, ℕ, ◌+◌, Bool, true, false, eqb, cond, List, [], ◌∷◌, ◌++◌, Option, Some, None, Result, Ok, Err, refl, sym, ap, ◌∙◌, subst, inl, inr}
use Rattle.std.specs.Prelude.{bytes_eq, ok_or}
use Rattle.std.specs.List.{All, slice_split}
use Rattle.std.specs.Option.{option_or}
use Rattle.std.proofs.lemmas.Bool.{cases_Bool}
use Rattle.std.proofs.lemmas.List.Elements.{All-nil, All-push, All-weaker}
use Rattle.std.proofs.lemmas.Slice.Eq.{bytes_eq-Decides}
use Rattle.text_words.specs.Addresses.{address_of}
use Rattle.network_names.specs.Words.{Word, words}
use Rattle.network_names.specs.declared.fault.NamesFaultKind.TheVariants.{BadAddress}
use Rattle.network_names.specs.Fault.{FaultAt}
use Rattle.network_names.specs.Names.{IsProper, Named, address_in, has_colon, is_name, reads_otherwise}
use Rattle.network_names.specs.File.{◌>>=◌, before_comment, names_in, with_entry, with_line, with_lines, with_name, with_names, with_words}
use Rattle.network_names.proofs.NameSteps.{again, bad_name, fresh, reserved, taken}
use Rattle.network_names.proofs.OneMore.{one_more_address}

abbrev pub AreProper : List Named → Type 0
AreProper all = All (IsProper all) all

abbrev pure : List Named → Result (List Named) FaultAt
pure all = Ok all

same_ok : (a b : List Named) → pure a ≡ pure b → a ≡ b
same_ok a b h = cc

then_ok : {A : Type 0} (r : Result A FaultAt) (f : A → Result (List Named) FaultAt) (y : List Named) → (r >>= f) ≡ Ok y → (x : A) × ((r ≡ Ok x) × (f x ≡ Ok y))
then_ok (Ok x) f y h = (x, (refl, h))
then_ok (Err fault) f y h = absurd cc

-- ---- one name

module _ (line : ℕ) (all : List Named) (address : ℕ) (word : Word) where
  added : is_name word ≡ true → reads_otherwise word ≡ false → address_in all word ≡ None → AreProper all → AreProper (all ++ (word, address) ∷ [])
  added name apart absent h =
      All-push (IsProper (all ++ (word, address) ∷ [])) all (word, address)
      (All-weaker (IsProper all) (IsProper (all ++ (word, address) ∷ []))
      (λ named proper. record {
        name = proper.name;
        apart = proper.apart;
        one_address = one_more_address all word address named.0
            ∙ ap (λ (o : Option ℕ). option_or o (cond (bytes_eq word named.0) (Some address) None)) proper.one_address;
      }) all h)
      (record {
        name = name;
        apart = apart;
        one_address = one_more_address all word address word
            ∙ ap (λ (o : Option ℕ). option_or o (cond (bytes_eq word word) (Some address) None)) absent
            ∙ ap (λ b. cond b (Some address) None) ((bytes_eq-Decides word word).1 refl);
      })

  module _ (after : List Named) (h : AreProper all) (given : with_name line all address word ≡ Ok after) where
    by_found : is_name word ≡ true → reads_otherwise word ≡ false → (found : Option ℕ) → address_in all word ≡ found → AreProper after
    by_found name apart None e =
        subst AreProper (same_ok _ after (sym (fresh line all address word name apart e) ∙ given)) (added name apart e h)
    by_found name apart (Some other) e =
        elim (cases_Bool (eqb other address)) [
          | inl same ↦ subst AreProper (same_ok all after (sym (again line all address word name apart other e same) ∙ given)) h
          | inr differs ↦ absurd (let no = sym (taken line all address word name apart other e differs) ∙ given in cc)
        ]

    name_proper : AreProper after
    name_proper =
        elim (cases_Bool (is_name word)) [
          | inl name ↦ elim (cases_Bool (reads_otherwise word)) [
            | inl otherwise ↦ absurd (let no = sym (reserved line all address word name otherwise) ∙ given in cc)
            | inr apart ↦ by_found name apart (address_in all word) refl
          ]
          | inr fails ↦ absurd (let no = sym (bad_name line all address word fails) ∙ given in cc)
        ]

-- ---- one line

names_proper : (line : ℕ) (all : List Named) (address : ℕ) (names : List Word) (after : List Named) → AreProper all
    → with_names line all address names ≡ Ok after → AreProper after
unfolding with_names
names_proper line all address [] after h given = subst AreProper (same_ok all after given) h
names_proper line all address (name ∷ names) after h given =
    let first = then_ok (with_name line all address name) (λ more. with_names line more address names) after given in
    names_proper line first.0 address names after (name_proper line all address name first.0 h first.1.0) first.1.1

entry_proper : (line : ℕ) (all : List Named) (word : Word) (names : List Word) (after : List Named) → AreProper all
    → with_entry line all word names ≡ Ok after → AreProper after
unfolding with_entry
entry_proper line all word [] after h given =
    let read = then_ok (ok_or (address_of word) (line, BadAddress, word)) _ after given in
    absurd (let no = read.1.1 in cc)
entry_proper line all word (name ∷ names) after h given =
    let read = then_ok (ok_or (address_of word) (line, BadAddress, word)) (λ address. with_names line all address (name ∷ names)) after given in
    names_proper line all read.0 (name ∷ names) after h read.1.1

words_proper : (line : ℕ) (all : List Named) (ws : List Word) (after : List Named) → AreProper all → with_words line all ws ≡ Ok after → AreProper after
unfolding with_words
words_proper line all [] after h given = subst AreProper (same_ok all after given) h
words_proper line all (first ∷ names) after h given = by (has_colon first) given where
  by : (colon : Bool) → cond colon (pure all) (with_entry line all first names) ≡ Ok after → AreProper after
  by true e = subst AreProper (same_ok all after e) h
  by false e = entry_proper line all first names after h e

-- ---- all lines

lines_proper : (line : ℕ) (all : List Named) (texts : List (List ℕ)) (after : List Named) → AreProper all → with_lines line all texts ≡ Ok after → AreProper after
unfolding with_lines
lines_proper line all [] after h given = subst AreProper (same_ok all after given) h
lines_proper line all (text ∷ texts) after h given =
    let first = then_ok (with_line line all text) (λ more. with_lines (line + 1) more texts) after given in
    lines_proper (line + 1) first.0 texts after (words_proper line all (words (before_comment text)) first.0 h first.1.0) first.1.1

pub names_proper_in : (file : List ℕ) (all : List Named) → names_in file ≡ Ok all → AreProper all
unfolding names_in
names_proper_in file all given = lines_proper 1 [] (slice_split (λ byte. eqb byte 10) file) all (All-nil (IsProper [])) given
