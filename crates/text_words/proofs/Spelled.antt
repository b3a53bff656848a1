-- Digits, as std parses them.
use Rattle.std.proofs.Common.{◌≡◌, ℕ, ◌^◌, ◌<◌, ◌≤◌, Bool, true, false, ltb, leb, List, [], ◌∷◌, length, Option, Some, None, refl, sym, ap, ◌∙◌, subst, arith, inl, inr}
use Rattle.std.specs.Prelude.{◌&&◌, IsUtf8, IsAscii}
use Rattle.std.specs.Char.{digit_value, is_ascii_digit}
use Rattle.std.specs.Int.{is_in_range}
use Rattle.std.specs.List.{list_all}
use Rattle.std.specs.Str.Parse.{AllDigits, IsNumeral, digits_value, without_leading_plus}
use Rattle.std.proofs.lemmas.Bool.{cases_Bool, cond-true, cond-false, and_parts, and_from, or_cases, leb-true, ltb-true, le-leb, lt-ltb}
use Rattle.std.proofs.lemmas.Bool.Decides.{nat_tests}
use Rattle.std.proofs.lemmas.Str.{IsUtf8-from_ascii, digit_value_digit}
use Rattle.std.proofs.lemmas.Str.Ascii.{IsAscii-nil, IsAscii-cons}
use Rattle.std.proofs.lemmas.Str.Parse.{without_leading_plus_none}
use Rattle.text_words.specs.declared.digits.Digits.{Digits}
use Rattle.text_words.specs.declared.digits.Digits.TheVariants.{Decimal, Hexadecimal}
use Rattle.text_words.specs.Numbers.{is_digit, radix, digits_up_to}

-- ---- one digit

in_range : (low high byte : ℕ) → is_in_range low high byte ≡ true → (low ≤ byte) × (byte ≤ high)
in_range low high byte h =
    let both = and_parts (leb low byte) (leb byte high) h in
    (leb-true low byte both.0, leb-true byte high both.1)

decimal_below : (byte : ℕ) → is_in_range 48 57 byte ≡ true → digit_value byte < 10
decimal_below byte h =
    let range = in_range 48 57 byte h in
    omega (arith, range.0, range.1, digit_value_digit byte range)

letter_below : (byte : ℕ) → 97 ≤ byte → byte ≤ 102 → digit_value byte < 16
letter_below byte low high = grind (arith, nat_tests)

below : (digits : Digits) (byte : ℕ) → is_digit digits byte ≡ true → digit_value byte < radix digits
below Decimal byte h = decimal_below byte h
below Hexadecimal byte h =
    elim (or_cases (is_ascii_digit byte) (is_in_range 97 102 byte) h) [
      | inl digit ↦ omega (arith, decimal_below byte digit)
      | inr letter ↦ let range = in_range 97 102 byte letter in letter_below byte range.0 range.1
    ]

bounds : (digits : Digits) (byte : ℕ) → is_digit digits byte ≡ true → (48 ≤ byte) × (byte ≤ 102)
bounds Decimal byte h = let range = in_range 48 57 byte h in (range.0, omega (arith, range.1))
bounds Hexadecimal byte h =
    elim (or_cases (is_ascii_digit byte) (is_in_range 97 102 byte) h) [
      | inl digit ↦ let range = in_range 48 57 byte digit in (range.0, omega (arith, range.1))
      | inr letter ↦ let range = in_range 97 102 byte letter in (omega (arith, range.0), range.1)
    ]

-- ---- words of digits

module _ (digits : Digits) where
  all_digits : (word : List ℕ) → list_all (is_digit digits) word ≡ true → AllDigits (radix digits) word
  all_digits [] h = tt
  all_digits (byte ∷ word) h =
      let both = and_parts (is_digit digits byte) (list_all (is_digit digits) word) h in
      (below digits byte both.0, all_digits word both.1)

  ascii : (word : List ℕ) → list_all (is_digit digits) word ≡ true → IsAscii word
  ascii [] h = IsAscii-nil
  ascii (byte ∷ word) h =
      let both = and_parts (is_digit digits byte) (list_all (is_digit digits) word) h in
      let range = bounds digits byte both.0 in
      IsAscii-cons byte word (omega (arith, range.1)) (ascii word both.1)

  utf8 : (word : List ℕ) → list_all (is_digit digits) word ≡ true → IsUtf8 word
  utf8 word h = IsUtf8-from_ascii word (ascii word h)

  no_plus : (word : List ℕ) → list_all (is_digit digits) word ≡ true → without_leading_plus word ≡ word
  no_plus [] h = refl
  no_plus (byte ∷ word) h =
      let both = and_parts (is_digit digits byte) (list_all (is_digit digits) word) h in
      let range = bounds digits byte both.0 in
      without_leading_plus_none (byte ∷ word) (λ e. omega (arith, range.0, e))

-- ---- what they spell

abbrev some : ℕ → Option ℕ
some n = Some n

abbrev none : Option ℕ
none = None

abbrev value : Digits → List ℕ → ℕ
value digits word = digits_value (radix digits) word

abbrev test : Digits → ℕ → List ℕ → Bool
test digits max word = ltb 0 (length word) && list_all (is_digit digits) word && leb (value digits word) max

spelled_by : (digits : Digits) (max : ℕ) (word : List ℕ) → test digits max word ≡ true → digits_up_to digits max word ≡ Some (value digits word)
unfolding digits_up_to
spelled_by digits max word h = cond-true (test digits max word) (some (value digits word)) none h

unspelled : (digits : Digits) (max : ℕ) (word : List ℕ) → test digits max word ≡ false → digits_up_to digits max word ≡ None
unfolding digits_up_to
unspelled digits max word h = cond-false (test digits max word) (some (value digits word)) none h

-- a word that spells a number
pub record Spells (digits : Digits) (max : ℕ) (word : List ℕ) (n : ℕ) : Type 0 where
  pub nonempty : 0 < length word
  pub all : list_all (is_digit digits) word ≡ true
  pub is : digits_value (radix digits) word ≡ n
  pub small : n ≤ max

pub found : (digits : Digits) (max : ℕ) (word : List ℕ) (n : ℕ) → Spells digits max word n → digits_up_to digits max word ≡ Some n
found digits max word n h =
    let small : value digits word ≤ max = omega (arith, h.is, h.small) in
    spelled_by digits max word
    (and_from (ltb 0 (length word) && list_all (is_digit digits) word) (leb (value digits word) max)
    (and_from (ltb 0 (length word)) (list_all (is_digit digits) word) (lt-ltb 0 (length word) h.nonempty) h.all)
    (le-leb (value digits word) max small))
    ∙ ap some h.is

pub spells : (digits : Digits) (max : ℕ) (word : List ℕ) (n : ℕ) → digits_up_to digits max word ≡ Some n → Spells digits max word n
spells digits max word n h =
    elim (cases_Bool (test digits max word)) [
      | inl holds ↦
          let both = and_parts (ltb 0 (length word) && list_all (is_digit digits) word) (leb (value digits word) max) holds in
          let front = and_parts (ltb 0 (length word)) (list_all (is_digit digits) word) both.0 in
          let le : value digits word ≤ max = leb-true (value digits word) max both.1 in
          let given : some (value digits word) ≡ some n = sym (spelled_by digits max word holds) ∙ h in
          let same : value digits word ≡ n = cc in
          record { nonempty = ltb-true 0 (length word) front.0; all = front.1; is = same; small = omega arith }
      | inr fails ↦ absurd (let given : none ≡ some n = sym (unspelled digits max word fails) ∙ h in cc)
    ]

nothing_where : (digits : Digits) (max : ℕ) (word : List ℕ) → ((n : ℕ) → Spells digits max word n → ⊥) → digits_up_to digits max word ≡ None
nothing_where digits max word h =
    elim (cases_Bool (test digits max word)) [
      | inl holds ↦ absurd (h (value digits word) (spells digits max word (value digits word) (spelled_by digits max word holds)))
      | inr fails ↦ unspelled digits max word fails
    ]

-- ---- as the code finds them

pub not_digits : (digits : Digits) (max : ℕ) (word : List ℕ) → list_all (is_digit digits) word ≡ false → digits_up_to digits max word ≡ None
not_digits digits max word h =
    nothing_where digits max word (λ n s. let both : true ≡ false = sym s.all ∙ h in cc)

module _ (digits : Digits) (max : ℕ) (word : List ℕ) (all : list_all (is_digit digits) word ≡ true) where
  pub not_utf8 : ¬ (IsUtf8 word) → digits_up_to digits max word ≡ None
  not_utf8 h = absurd (h (utf8 digits word all))

  pub not_parsed : max < 2 ^ 32
      → ¬ (IsNumeral (radix digits) (without_leading_plus word) × (digits_value (radix digits) (without_leading_plus word) < 2 ^ 32))
      → digits_up_to digits max word ≡ None
  not_parsed short h =
      nothing_where digits max word (λ n s.
      let fits : digits_value (radix digits) word < 2 ^ 32 = omega (arith, s.is, s.small) in
      h (subst (λ (ds : List ℕ). IsNumeral (radix digits) ds × (digits_value (radix digits) ds < 2 ^ 32)) (sym (no_plus digits word all))
      ((s.nonempty, all_digits digits word all), fits)))

  pub parsed_over : (n : ℕ) → n ≡ digits_value (radix digits) (without_leading_plus word) → max < n → digits_up_to digits max word ≡ None
  parsed_over n e over =
      let plain : n ≡ digits_value (radix digits) word = e ∙ ap (digits_value (radix digits)) (no_plus digits word all) in
      nothing_where digits max word (λ m s. omega (arith, s.is, s.small))

  pub parsed_found : (n : ℕ) → IsNumeral (radix digits) (without_leading_plus word)
      → n ≡ digits_value (radix digits) (without_leading_plus word) → n ≤ max → digits_up_to digits max word ≡ Some n
  parsed_found n numeral e small =
      let plain : n ≡ digits_value (radix digits) word = e ∙ ap (digits_value (radix digits)) (no_plus digits word all) in
      let nonempty : 0 < length word = subst (λ (ds : List ℕ). 0 < length ds) (no_plus digits word all) numeral.0 in
      found digits max word n (record { nonempty = nonempty; all = all; is = sym plain; small = small })
