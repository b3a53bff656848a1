-- The words of a text in which blanks stand between words; numbers and addresses are words.
use Rattle.std.proofs.Common.{◌≡◌, ℕ, ◌/◌, ◌%◌, ◌^◌, ◌<◌, ◌≤◌, Bool, true, false, cond, List, [], ◌∷◌, ◌++◌, length}
use Rattle.std.proofs.Common.{length-append, refl, ap, ◌∙◌, arith}
use Rattle.std.specs.Prelude.{decimal, filter}
use Rattle.std.specs.List.{slice_split, join_with_byte, All}
use Rattle.std.proofs.lemmas.Fmt.{decimal_nonempty}
use Rattle.std.proofs.lemmas.Bool.{ne_eqb}
use Rattle.std.proofs.lemmas.List.Elements.{All-nil, All-cons, All-head, All-tail, filter-append}
use Rattle.std.proofs.lemmas.List.Splits.{slice_split_none}
use Rattle.lsa_codec.specs.Spelling.{address_text}
use Rattle.text_words.specs.declared.blanks.Blanks.{Blanks}
use Rattle.text_words.specs.declared.blanks.Blanks.TheVariants.{InLine, InText}
use Rattle.text_words.specs.Words.{Word, is_blank, is_nonempty, words, IsWord}
use Rattle.text_words.proofs.PartLemmas.{Lacks, Lacks-literal, has_none, split_twice, parts_lack}
use Rattle.text_words.proofs.NumberLemmas.{SparesDigits, Lacks-decimal}
use Rattle.text_words.proofs.AddressLemmas.{Lacks-address}

kept_nonempty : (word : Word) → 0 < length word → is_nonempty word ≡ true
kept_nonempty [] h = absurd (omega arith)
kept_nonempty (byte ∷ word) h = grind arith

-- no blank is above the space
pub above_blanks : (blanks : Blanks) (byte : ℕ) → 33 ≤ byte → is_blank blanks byte ≡ false
above_blanks InLine byte h = rw (
  ne_eqb byte 0x20 (λ e. omega arith),
  ne_eqb byte 0x09 (λ e. omega arith),
  ne_eqb byte 0x0d (λ e. omega arith),
) refl
above_blanks InText byte h = rw (
  ne_eqb byte 0x20 (λ e. omega arith),
  ne_eqb byte 0x09 (λ e. omega arith),
  ne_eqb byte 0x0a (λ e. omega arith),
  ne_eqb byte 0x0d (λ e. omega arith),
) refl

module _ (blanks : Blanks) where
  -- ---- the words of a text

  -- a blank stands between the words before it and those after it
  pub words_beside : (front text : List ℕ) (blank : ℕ) → is_blank blanks blank ≡ true
      → words blanks (front ++ blank ∷ text) ≡ words blanks front ++ words blanks text
  words_beside front text blank h =
      ap (filter is_nonempty) (split_twice (is_blank blanks) front blank text h)
      ∙ filter-append is_nonempty (slice_split (is_blank blanks) front) (slice_split (is_blank blanks) text)

  pub one_word : (word : Word) → IsWord blanks word → words blanks word ≡ word ∷ []
  one_word word h =
      ap (filter is_nonempty) (slice_split_none (is_blank blanks) word h.no_blank)
      ∙ ap (λ (b : Bool). cond b (word ∷ []) []) (kept_nonempty word h.some)

  pub words_joined : (blank : ℕ) (ws : List Word) → is_blank blanks blank ≡ true → All (IsWord blanks) ws
      → words blanks (join_with_byte blank ws) ≡ ws
  words_joined blank [] h all = refl
  words_joined blank (word ∷ []) h all = one_word word (All-head (IsWord blanks) word [] all)
  words_joined blank (word ∷ next ∷ ws) h all =
      words_beside word (join_with_byte blank (next ∷ ws)) blank h
      ∙ ap (λ (front : List Word). front ++ words blanks (join_with_byte blank (next ∷ ws)))
      (one_word word (All-head (IsWord blanks) word (next ∷ ws) all))
      ∙ ap (λ (after : List Word). word ∷ after) (words_joined blank (next ∷ ws) h (All-tail (IsWord blanks) word (next ∷ ws) all))

  kept : (parts : List Word) → All (Lacks (is_blank blanks)) parts → All (IsWord blanks) (filter is_nonempty parts)
  kept [] h = All-nil (IsWord blanks)
  kept ([] ∷ parts) h = kept parts (All-tail (Lacks (is_blank blanks)) [] parts h)
  kept ((byte ∷ part) ∷ parts) h =
      let some : 0 < length (byte ∷ part) = omega arith in
      rw (kept_nonempty (byte ∷ part) some)
      (All-cons (IsWord blanks) (byte ∷ part) (filter is_nonempty parts)
      (record { some = some; no_blank = All-head (Lacks (is_blank blanks)) (byte ∷ part) parts h })
      (kept parts (All-tail (Lacks (is_blank blanks)) (byte ∷ part) parts h)))

  -- the words of any text are words
  pub are_words : (text : List ℕ) → All (IsWord blanks) (words blanks text)
  are_words text = kept (slice_split (is_blank blanks) text) (parts_lack (is_blank blanks) text)

  -- a word that is written out
  pub literal_word : (word : Word) → has_none (is_blank blanks) word ≡ true → 0 < length word → IsWord blanks word
  literal_word word h some = record { some = some; no_blank = Lacks-literal (is_blank blanks) word h }

  -- ---- numbers and addresses

  pub blank_spares : SparesDigits (is_blank blanks)
  blank_spares = record { spares = λ b low high. above_blanks blanks b (omega arith) }

  pub decimal_word : (n : ℕ) → n < 2 ^ 64 → IsWord blanks (decimal n)
  decimal_word n h = record { some = decimal_nonempty n h; no_blank = Lacks-decimal (is_blank blanks) blank_spares n h }

  pub address_word : (n : ℕ) → IsWord blanks (address_text n)
  address_word n = record {
    some = omega (
      arith,
      length-append (decimal (n / 16777216 % 256))
          (46 ∷ (decimal (n / 65536 % 256) ++ 46 ∷ (decimal (n / 256 % 256) ++ 46 ∷ decimal (n % 256)))),
    );
    no_blank = Lacks-address (is_blank blanks) blank_spares (above_blanks blanks 46 (omega arith)) n;
  }
