-- Numbers that are written in decimal are read back, and what is read is what was written.
use Rattle.std.proofs.Common.{◌≡◌, ℕ, ◌+◌, ◌^◌, ◌<◌, ◌≤◌, Bool, true, false, eqb, ltb, List, [], ◌∷◌, length, get_or}
use Rattle.std.proofs.Common.{Option, Some, None, refl, sym, ap, ◌∙◌, arith, rules, inl, inr}
use Rattle.std.specs.Prelude.{decimal, ◌&&◌}
use Rattle.std.specs.List.{list_all}
use Rattle.std.specs.Char.{is_ascii_digit}
use Rattle.std.specs.Str.{all_ascii_digits}
use Rattle.std.specs.Str.Parse.{digits_value}
use Rattle.std.proofs.lemmas.Str.Parse.{IsNumeralModel, numerals_by_value}
use Rattle.std.proofs.lemmas.Fmt.{digits_decimal, digits_value-decimal, decimal_nonempty, first_decimal, decimal_digit, decimal-digits_value}
use Rattle.std.proofs.lemmas.Bool.Decides.{nat_tests}
use Rattle.std.proofs.lemmas.Bool.{cases_lt, cases_Bool, and_parts, and_cases, and_left, and_right, cond-true, cond-false, ne_eqb, ltb-false, eqb-false}
use Rattle.std.proofs.lemmas.List.Elements.{All-nil, All-cons}
use Rattle.text_words.specs.declared.digits.Digits.TheVariants.{Decimal}
use Rattle.text_words.specs.Numbers.{digits_up_to, is_digit, number_up_to}
use Rattle.text_words.proofs.Spelled.{Spells, found, spells}
use Rattle.text_words.proofs.PartLemmas.{Lacks}

pub own : IsNumeralModel (λ ds. all_ascii_digits ds ≡ true) (digits_value 10)
own = numerals_by_value _ (search rules)

same_digits : (ds : List ℕ) → list_all (is_digit Decimal) ds ≡ all_ascii_digits ds
same_digits [] = refl
same_digits (d ∷ ds) = ap (λ (b : Bool). is_ascii_digit d && b) (same_digits ds)

-- ---- bytes that no number has

-- a test that no digit passes
pub record SparesDigits (p : ℕ → Bool) : Type 0 where
  pub spares : (b : ℕ) → 48 ≤ b → b ≤ 57 → p b ≡ false

-- a number's text has no byte that passes such a test
pub Lacks-digits : (p : ℕ → Bool) → SparesDigits p → (ds : List ℕ) → all_ascii_digits ds ≡ true → Lacks p ds
Lacks-digits p s [] h = All-nil (λ b. p b ≡ false)
Lacks-digits p s (d ∷ ds) h =
    let both = and_parts (is_ascii_digit d) (all_ascii_digits ds) h in
    let low : 48 ≤ d = grind (arith, nat_tests) in
    let high : d ≤ 57 = grind (arith, nat_tests) in
    All-cons (λ b. p b ≡ false) d ds (s.spares d low high) (Lacks-digits p s ds both.1)

pub Lacks-decimal : (p : ℕ → Bool) → SparesDigits p → (n : ℕ) → n < 2 ^ 64 → Lacks p (decimal n)
Lacks-decimal p s n h = Lacks-digits p s (decimal n) (digits_decimal own n h)

-- ---- with leading zeros or without

pub decimal_again : (max n : ℕ) → n ≤ max → n < 2 ^ 64 → digits_up_to Decimal max (decimal n) ≡ Some n
decimal_again max n le small =
    found Decimal max (decimal n) n (record {
      nonempty = decimal_nonempty n small;
      all = same_digits (decimal n) ∙ digits_decimal own n small;
      is = digits_value-decimal own n small;
      small = le;
    })

-- a zero stands before another digit
abbrev leads : List ℕ → Bool
leads word = ltb 1 (length word) && eqb (get_or word 0 0) 48

no_zero : (n : ℕ) → n < 2 ^ 64 → leads (decimal n) ≡ false
no_zero n h =
    elim (cases_lt 0 n) [
      | inl more ↦ let first : 48 < get_or (decimal n) 0 0 = first_decimal n more h in
          and_right (ltb 1 (length (decimal n))) (eqb (get_or (decimal n) 0 0) 48) (ne_eqb (get_or (decimal n) 0 0) 48 (λ e. omega arith))
      | inr not_more ↦ let one : decimal n ≡ (48 + n) ∷ [] = decimal_digit n (omega arith) in
          and_left (ltb 1 (length (decimal n))) (eqb (get_or (decimal n) 0 0) 48) (ap (λ (ds : List ℕ). ltb 1 (length ds)) one)
    ]

abbrev none : Option ℕ
none = None

abbrev some : ℕ → Option ℕ
some n = Some n

without_zero : (max : ℕ) (word : List ℕ) → leads word ≡ false → number_up_to max word ≡ digits_up_to Decimal max word
unfolding number_up_to
without_zero max word h = cond-false (leads word) none (digits_up_to Decimal max word) h

with_zero : (max : ℕ) (word : List ℕ) → leads word ≡ true → number_up_to max word ≡ None
unfolding number_up_to
with_zero max word h = cond-true (leads word) none (digits_up_to Decimal max word) h

-- the text of a number is read as that number
pub number_again : (max n : ℕ) → n ≤ max → max < 2 ^ 64 → number_up_to max (decimal n) ≡ Some n
number_again max n le h =
    let small : n < 2 ^ 64 = omega arith in
    without_zero max (decimal n) (no_zero n small) ∙ decimal_again max n le small

-- a word that is read as a number is the text of that number
pub number_spelled : (max : ℕ) (word : List ℕ) (n : ℕ) → max < 2 ^ 64 → number_up_to max word ≡ Some n → (word ≡ decimal n) × (n ≤ max)
number_spelled max word n small h =
    elim (cases_Bool (leads word)) [
      | inl leading ↦ absurd (let given : none ≡ some n = sym (with_zero max word leading) ∙ h in cc)
      | inr fails ↦
          let s : Spells Decimal max word n = spells Decimal max word n (sym (without_zero max word fails) ∙ h) in
          let value : digits_value 10 word ≡ n = s.is in
          let fits : digits_value 10 word < 2 ^ 64 = omega (arith, s.small) in
          let lead : get_or word 0 0 ≡ 48 → length word ≡ 1 = λ e.
          elim (and_cases (ltb 1 (length word)) (eqb (get_or word 0 0) 48) fails) [
            | inl short ↦ omega (arith, ltb-false 1 (length word) short, s.nonempty)
            | inr other ↦ absurd (eqb-false (get_or word 0 0) 48 other e)
          ] in
          (sym (decimal-digits_value own word (sym (same_digits word) ∙ s.all) s.nonempty lead fits) ∙ ap decimal value, s.small)
    ]
