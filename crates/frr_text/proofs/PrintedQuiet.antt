-- Words at which neither an LSA nor a heading begins, whatever follows them.
use Rattle.std.proofs.Common.{◌≡◌, ◌≢◌, ℕ, zero, suc, ◌+◌, ◌/◌, ◌%◌, ◌^◌, ◌<◌, ◌≤◌, Bool, true, false, eqb, ltb, cond, List, [], ◌∷◌, ◌++◌, length}
use Rattle.std.proofs.Common.{append_assoc, Option, Some, None, refl, sym, ap, subst, ◌∙◌, arith, inl, inr}
use Rattle.std.specs.Prelude.{decimal, codes, bytes_eq, not, ◌&&◌, ◌||◌}
use Rattle.std.specs.Bool.{Decides}
use Rattle.std.specs.Str.{all_ascii_digits}
use Rattle.std.specs.Char.{is_ascii_digit}
use Rattle.std.proofs.lemmas.Fmt.{digits_decimal, decimal_nonempty}
use Rattle.std.proofs.lemmas.Bool.Decides.{nat_tests}
use Rattle.std.proofs.lemmas.Bool.{and_parts, ne_eqb, cond-true, cond-false, cases_lt, lt-ltb, le-ltb}
use Rattle.std.proofs.lemmas.Slice.Eq.{bytes_eq-Decides}
use Rattle.lsa_codec.specs.declared.address.AreaId.{AreaId}
use Rattle.lsa_codec.specs.Spelling.{address_text}
use Rattle.frr_text.specs.declared.label.Label.TheVariants as label
use Rattle.findings.specs.declared.part.Part.{Part}
use Rattle.frr_text.specs.Words.{Word, words}
use Rattle.frr_text.specs.Rules.{◌>>=◌}
use Rattle.text_words.specs.Words.{after_words}
use Rattle.frr_text.specs.Labels.{text_of, after_label, first_word, word_after}
use Rattle.frr_text.specs.Headings.{area_named, heading_at, area_at}
use Rattle.frr_text.specs.ParsedParts.{kinds_at, lsa_from, lsas_at, parsed_in}
use Rattle.frr_text.specs.Printing.{printed_digit, printed_hex}
use Rattle.frr_text.specs.PrintingTexts.{IsPlain}
use Rattle.text_words.proofs.NumberLemmas.{own}

-- ---- at one word

pub area_none : (word : Word) (text : List Word) → bytes_eq word (codes "(Area") ≡ false → after_label label.Area (word ∷ text) ≡ None
unfolding after_label after_words words text_of
area_none word text h = cond-false (bytes_eq word (codes "(Area")) (Some text) None h

pub age_first : (word : Word) (text : List Word) → bytes_eq word (codes "LS") ≡ false → after_label label.Age (word ∷ text) ≡ None
unfolding after_label after_words words text_of
age_first word text h = cond-false (bytes_eq word (codes "LS")) (after_words (codes "age:" ∷ []) text) None h

pub age_second : (word next : Word) (text : List Word) → bytes_eq next (codes "age:") ≡ false → after_label label.Age (word ∷ next ∷ text) ≡ None
unfolding after_label after_words words text_of
age_second word next text h = rw h (either (bytes_eq word (codes "LS"))) where
  either : (b : Bool) → cond {A = Option (List Word)} b None None ≡ None
  either true = refl
  either false = refl

pub area_kept : (area : Option AreaId) (text : List Word) → after_label label.Area text ≡ None → area_at area text ≡ area
unfolding area_at word_after
area_kept area text h = ap (λ (found : Option (List Word)). area_named area (found >>= first_word)) h

module _ {A : Type 0} where
  pub no_kinds : (text : List Word) → after_label label.Area text ≡ None → kinds_at {A = A} text ≡ []
  unfolding kinds_at heading_at word_after
  no_kinds text h = simp h

  pub no_lsas : (area : Option AreaId) (text : List Word) → after_label label.Age text ≡ None → lsas_at {A = A} area text ≡ []
  unfolding lsas_at
  no_lsas area text h = ap (lsa_from area text) h

  pub step : (area : Option AreaId) (word : Word) (text : List Word)
      → parsed_in {A = A} area (word ∷ text)
      ≡ (kinds_at (word ∷ text) ++ lsas_at (area_at area (word ∷ text)) (word ∷ text)) ++ parsed_in (area_at area (word ∷ text)) text
  unfolding parsed_in
  step area word text = refl

  -- no heading begins here
  pub no_heading : (area : Option AreaId) (word : Word) (text : List Word) → after_label label.Area (word ∷ text) ≡ None
      → parsed_in {A = A} area (word ∷ text) ≡ lsas_at area (word ∷ text) ++ parsed_in area text
  no_heading area word text h =
      step area word text
      ∙ ap (λ (next : Option AreaId). (kinds_at (word ∷ text) ++ lsas_at next (word ∷ text)) ++ parsed_in next text) (area_kept area (word ∷ text) h)
      ∙ ap (λ (kinds : List (Part A)). (kinds ++ lsas_at area (word ∷ text)) ++ parsed_in area text) (no_kinds (word ∷ text) h)

  pub nothing : (area : Option AreaId) (word : Word) (text : List Word) → after_label label.Area (word ∷ text) ≡ None
      → after_label label.Age (word ∷ text) ≡ None → parsed_in {A = A} area (word ∷ text) ≡ parsed_in area text
  nothing area word text h k =
      no_heading area word text h ∙ ap (λ (parsed : List (Part A)). parsed ++ parsed_in area text) (no_lsas area (word ∷ text) k)

-- ---- words at which nothing begins, whatever follows them

abbrev pub may_follow : List Word → Bool
may_follow [] = false
may_follow (word ∷ text) = not (bytes_eq word (codes "age:"))

abbrev pub is_quiet : List Word → Bool
is_quiet [] = true
is_quiet (word ∷ text) = (not (bytes_eq word (codes "(Area")) && (not (bytes_eq word (codes "LS")) || may_follow text)) && is_quiet text

pub not_true : (b : Bool) → not b ≡ true → b ≡ false
not_true false h = refl
not_true true h = absurd cc

pub age_none : (word : Word) (front rest : List Word) (b : Bool) → bytes_eq word (codes "LS") ≡ b → (not b || may_follow front) ≡ true
    → after_label label.Age (word ∷ (front ++ rest)) ≡ None
age_none word front rest false e h = age_first word (front ++ rest) e
age_none word [] rest true e h = absurd cc
age_none word (next ∷ front) rest true e h = age_second word next (front ++ rest) (not_true (bytes_eq next (codes "age:")) h)

pub record Quiet (A : Type 0) (front : List Word) : Type 0 where
  pub quiet : (area : Option AreaId) (rest : List Word) → parsed_in {A = A} area (front ++ rest) ≡ parsed_in area rest

module _ {A : Type 0} where
  pub quiet_on : (area : Option AreaId) (front rest : List Word) → is_quiet front ≡ true → parsed_in {A = A} area (front ++ rest) ≡ parsed_in area rest
  quiet_on area [] rest h = refl
  quiet_on area (word ∷ front) rest h =
      let both = and_parts (not (bytes_eq word (codes "(Area")) && (not (bytes_eq word (codes "LS")) || may_follow front)) (is_quiet front) h in
      let here = and_parts (not (bytes_eq word (codes "(Area"))) (not (bytes_eq word (codes "LS")) || may_follow front) both.0 in
      nothing area word (front ++ rest) (area_none word (front ++ rest) (not_true (bytes_eq word (codes "(Area")) here.0))
      (age_none word front rest (bytes_eq word (codes "LS")) refl here.1)
      ∙ quiet_on area front rest both.1

  pub of_test : (front : List Word) → is_quiet front ≡ true → Quiet A front
  of_test front h = record { quiet = λ area rest. quiet_on area front rest h }

  pub none_said : Quiet A []
  none_said = record { quiet = λ area rest. refl }

  pub both : {xs ys : List Word} → Quiet A xs → Quiet A ys → Quiet A (xs ++ ys)
  both {xs} {ys} hx hy = record {
    quiet = λ area rest. ap (parsed_in area) (append_assoc xs ys rest) ∙ hx.quiet area (ys ++ rest) ∙ hy.quiet area rest;
  }

-- ---- plain words

pub record Plain (word : Word) : Type 0 where
  pub test : is_quiet (word ∷ []) ≡ true

pub differs : (b : Bool) (P : Type 0) → Decides b P → ¬ P → b ≡ false
differs true P d n = absurd (n (d.0 refl))
differs false P d n = refl

pub plain : (word : Word) → bytes_eq word (codes "(Area") ≡ false → bytes_eq word (codes "LS") ≡ false → Plain word
plain word h k = record { test = rw (h, k) refl }

pub plain_word : (word : Word) → IsPlain word → Plain word
plain_word word h =
    plain word (differs (bytes_eq word (codes "(Area")) (word ≡ codes "(Area") (bytes_eq-Decides word (codes "(Area")) h.no_area)
    (differs (bytes_eq word (codes "LS")) (word ≡ codes "LS") (bytes_eq-Decides word (codes "LS")) h.no_lsa)

-- the first byte is neither a parenthesis (40) nor an L (76)
pub record Starts (word : Word) : Type 0 where
  pub byte : ℕ
  pub after : Word
  pub is : word ≡ byte ∷ after
  pub no_parenthesis : eqb byte 40 ≡ false
  pub no_letter : eqb byte 76 ≡ false

pub plain_start : (word : Word) → Starts word → Plain word
plain_start word h =
    subst Plain (sym h.is) (plain (h.byte ∷ h.after)
    (ap (λ (b : Bool). b && bytes_eq h.after (codes "Area")) h.no_parenthesis)
    (ap (λ (b : Bool). b && bytes_eq h.after (codes "S")) h.no_letter))

pub start_append : (word more : Word) → Starts word → Starts (word ++ more)
start_append word more h = record {
  byte = h.byte;
  after = h.after ++ more;
  is = ap (λ (front : Word). front ++ more) h.is;
  no_parenthesis = h.no_parenthesis;
  no_letter = h.no_letter;
}

pub start_at : (byte : ℕ) (after : Word) → byte ≢ 40 → byte ≢ 76 → Starts (byte ∷ after)
start_at byte after h k = record {
  byte = byte;
  after = after;
  is = refl;
  no_parenthesis = ne_eqb byte 40 h;
  no_letter = ne_eqb byte 76 k;
}

pub start_digits : (ds : List ℕ) → all_ascii_digits ds ≡ true → 0 < length ds → Starts ds
start_digits [] h some = absurd (omega arith)
start_digits (d ∷ ds) h some =
    let parts = and_parts (is_ascii_digit d) (all_ascii_digits ds) h in
    let low : 48 ≤ d = grind (arith, nat_tests) in
    let high : d ≤ 57 = grind (arith, nat_tests) in
    start_at d ds (λ e. omega arith) (λ e. omega arith)

pub start_decimal : (n : ℕ) → n < 2 ^ 64 → Starts (decimal n)
start_decimal n h = start_digits (decimal n) (digits_decimal own n h) (decimal_nonempty n h)

pub start_address : (n : ℕ) → Starts (address_text n)
start_address n =
    start_append (decimal (n / 16777216 % 256)) (46 ∷ (decimal (n / 65536 % 256) ++ 46 ∷ (decimal (n / 256 % 256) ++ 46 ∷ decimal (n % 256))))
    (start_decimal (n / 16777216 % 256) (omega arith))

pub start_digit : (d : ℕ) → d < 16 → Starts (printed_digit d ∷ [])
start_digit d h =
    elim (cases_lt d 10) [
      | inl low ↦ subst (λ (byte : ℕ). Starts (byte ∷ [])) (sym (cond-true (ltb d 10) (48 + d) (87 + d) (lt-ltb d 10 low)))
          (start_at (48 + d) [] (λ e. omega arith) (λ e. omega arith))
      | inr high ↦ subst (λ (byte : ℕ). Starts (byte ∷ [])) (sym (cond-false (ltb d 10) (48 + d) (87 + d) (le-ltb d 10 high)))
          (start_at (87 + d) [] (λ e. omega arith) (λ e. omega arith))
    ]

pub start_hex : (count n : ℕ) → Starts (printed_hex (suc count) n)
start_hex zero n = start_digit (n % 16) (omega arith)
start_hex (suc count) n = start_append (printed_hex (suc count) (n / 16)) (printed_digit (n % 16) ∷ []) (start_hex count (n / 16))
