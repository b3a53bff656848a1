-- Addresses that are written in dotted decimal are read back, and what is read is what was written.
use Rattle.std.proofs.Common.{◌≡◌, ℕ, zero, suc, ◌/◌, ◌%◌, ◌^◌, ◌<◌, ◌≤◌, Bool, false, eqb, List, [], ◌∷◌, ◌++◌, append_assoc, get_or}
use Rattle.std.proofs.Common.{Option, Some, None, refl, sym, ap, subst, ◌∙◌, arith}
use Rattle.std.specs.Prelude.{decimal, map}
use Rattle.std.specs.List.{slice_split, join_with_byte}
use Rattle.std.specs.Int.{w32, from_be_bytes, to_be_bytes}
use Rattle.std.specs.Net.Addr.{ipv4_bits}
use Rattle.std.specs.Net.Grammar.{IsIpv4Text}
use Rattle.std.specs.Net.Text.{dotted_text}
use Rattle.std.specs.declared.net.ipv4_addr.Ipv4Addr.{Ipv4Addr}
use Rattle.std.proofs.lemmas.Bool.{ne_eqb}
use Rattle.std.proofs.lemmas.List.Elements.{All-cons, All-append}
use Rattle.std.proofs.lemmas.List.Splits.{join_with_byte-slice_split}
use Rattle.std.proofs.lemmas.Nat.{be_bytes_4, from_be_bytes-to_be_bytes_4}
use Rattle.lsa_codec.specs.Spelling.{address_text}
use Rattle.text_words.proofs.OptionLemmas.{then_some}
use Rattle.text_words.specs.Words.{Word}
use Rattle.text_words.specs.Numbers.{number_up_to}
use Rattle.text_words.specs.Addresses.{four_parts, address_of, address_of_parts}
use Rattle.text_words.proofs.NumberLemmas.{SparesDigits, Lacks-decimal, number_again, number_spelled}
use Rattle.text_words.proofs.PartLemmas.{Lacks, split_joined}

-- ---- written and read back

-- each number is a byte
record AreBytes (a b c d : ℕ) : Type 0 where
  first : a ≤ 255
  second : b ≤ 255
  third : c ≤ 255
  fourth : d ≤ 255

parts_again : (a b c d : ℕ) → AreBytes a b c d → address_of_parts (decimal a ∷ decimal b ∷ decimal c ∷ decimal d ∷ []) ≡ Some
    (from_be_bytes w32 (a ∷ b ∷ c ∷ d ∷ []))
unfolding address_of_parts
parts_again a b c d h =
    simp (
      number_again 255 a h.first (omega arith),
      number_again 255 b h.second (omega arith),
      number_again 255 c h.third (omega arith),
      number_again 255 d h.fourth (omega arith),
    )

dot_spares : SparesDigits (λ b. eqb b 46)
dot_spares = record { spares = λ b low high. ne_eqb b 46 (λ e. omega arith) }

split_dots : (a b c d : ℕ) → AreBytes a b c d → slice_split (λ b. eqb b 46)
    (join_with_byte 46 (decimal a ∷ decimal b ∷ decimal c ∷ decimal d ∷ [])) ≡ decimal a ∷ decimal b ∷ decimal c ∷ decimal d ∷ []
split_dots a b c d h =
    let has_none : (n : ℕ) → n ≤ 255 → Lacks (λ b. eqb b 46) (decimal n) = λ n le. Lacks-decimal (λ b. eqb b 46) dot_spares n (omega arith) in
    split_joined (λ b. eqb b 46) 46 refl (decimal a) (decimal b ∷ decimal c ∷ decimal d ∷ [])
    (has_none a h.first, (has_none b h.second, (has_none c h.third, (has_none d h.fourth, tt))))

bytes_again : (a b c d : ℕ) → AreBytes a b c d → address_of (join_with_byte 46 (decimal a ∷ decimal b ∷ decimal c ∷ decimal d ∷ [])) ≡ Some
    (from_be_bytes w32 (a ∷ b ∷ c ∷ d ∷ []))
bytes_again a b c d h = ap address_of_parts (split_dots a b c d h) ∙ parts_again a b c d h

-- the text of an address is read as that address
pub address_again : (n : ℕ) → n < 2 ^ 32 → address_of (address_text n) ≡ Some n
address_again n h =
    bytes_again (n / 16777216 % 256) (n / 65536 % 256) (n / 256 % 256) (n % 256)
    (record { first = omega arith; second = omega arith; third = omega arith; fourth = omega arith })
    ∙ ap (λ (m : ℕ). Some m) (from_be_bytes-to_be_bytes_4 n h)

-- a test that neither a digit nor the dot passes
pub Lacks-address : (p : ℕ → Bool) → SparesDigits p → p 46 ≡ false → (n : ℕ) → Lacks p (address_text n)
Lacks-address p s dot n =
    let P : ℕ → Type 0 = λ b. p b ≡ false in
    let small : (m : ℕ) → Lacks p (decimal (m % 256)) = λ m. Lacks-decimal p s (m % 256) (omega arith) in
    All-append P (decimal (n / 16777216 % 256)) (46 ∷ (decimal (n / 65536 % 256) ++ 46 ∷ (decimal (n / 256 % 256) ++ 46 ∷ decimal (n % 256))))
    (small (n / 16777216))
    (All-cons P 46 (decimal (n / 65536 % 256) ++ 46 ∷ (decimal (n / 256 % 256) ++ 46 ∷ decimal (n % 256))) dot
    (All-append P (decimal (n / 65536 % 256)) (46 ∷ (decimal (n / 256 % 256) ++ 46 ∷ decimal (n % 256))) (small (n / 65536))
    (All-cons P 46 (decimal (n / 256 % 256) ++ 46 ∷ decimal (n % 256)) dot
    (All-append P (decimal (n / 256 % 256)) (46 ∷ decimal (n % 256)) (small (n / 256))
    (All-cons P 46 (decimal (n % 256)) dot (small n))))))

-- ---- read, so written

four_parts_are : (parts : List Word) (p : Word × Word × Word × Word) → four_parts parts ≡ Some p → parts ≡ p.0 ∷ p.1 ∷ p.2 ∷ p.3 ∷ []
four_parts_are [] p h = absurd cc
four_parts_are (a ∷ []) p h = absurd cc
four_parts_are (a ∷ b ∷ []) p h = absurd cc
four_parts_are (a ∷ b ∷ c ∷ []) p h = absurd cc
four_parts_are (a ∷ b ∷ c ∷ d ∷ []) p h = let same : (a, b, c, d) ≡ p = cc in ap (λ (q : Word × Word × Word × Word). q.0 ∷ q.1 ∷ q.2 ∷ q.3 ∷ []) same
four_parts_are (a ∷ b ∷ c ∷ d ∷ e ∷ parts) p h = absurd cc

four_same : (a b c d e f g h : Word) → a ≡ e → b ≡ f → c ≡ g → d ≡ h → a ∷ b ∷ c ∷ d ∷ [] ≡ e ∷ f ∷ g ∷ h ∷ []
four_same a b c d e f g h first second third fourth = rw (first, second, third, fourth) refl

are_bytes : (a b c d : ℕ) → AreBytes a b c d → (i : ℕ) → get_or (a ∷ b ∷ c ∷ d ∷ []) i 0 < 256
are_bytes a b c d h zero = omega (arith, h.first)
are_bytes a b c d h (suc zero) = omega (arith, h.second)
are_bytes a b c d h (suc (suc zero)) = omega (arith, h.third)
are_bytes a b c d h (suc (suc (suc zero))) = omega (arith, h.fourth)
are_bytes a b c d h (suc (suc (suc (suc i)))) = omega arith

text_of_bytes : (a b c d n : ℕ) → AreBytes a b c d → from_be_bytes w32 (a ∷ b ∷ c ∷ d ∷ []) ≡ n
    → join_with_byte 46 (decimal a ∷ decimal b ∷ decimal c ∷ decimal d ∷ []) ≡ address_text n
text_of_bytes a b c d n h e =
    ap (λ (bytes : List ℕ). join_with_byte 46 (map decimal bytes)) (sym (be_bytes_4 (a ∷ b ∷ c ∷ d ∷ []) n refl (are_bytes a b c d h) (sym e)))

number_of_bytes : (a b c d : ℕ) → AreBytes a b c d → from_be_bytes w32 (a ∷ b ∷ c ∷ d ∷ []) < 2 ^ 32
number_of_bytes a b c d h = omega (arith, h.first, h.second, h.third, h.fourth)

-- a word that is read as an address is the text of that address
pub address_spelled : (word : Word) (n : ℕ) → address_of word ≡ Some n → (word ≡ address_text n) × (n < 2 ^ 32)
unfolding address_of_parts
address_spelled word n h =
    let parts = then_some (four_parts (slice_split (λ b. eqb b 46) word)) _ n h in
    let p = parts.0 in
    let first = then_some (number_up_to 255 p.0) _ n parts.1.1 in
    let second = then_some (number_up_to 255 p.1) _ n first.1.1 in
    let third = then_some (number_up_to 255 p.2) _ n second.1.1 in
    let fourth = then_some (number_up_to 255 p.3) _ n third.1.1 in
    let a = number_spelled 255 p.0 first.0 (omega arith) first.1.0 in
    let b = number_spelled 255 p.1 second.0 (omega arith) second.1.0 in
    let c = number_spelled 255 p.2 third.0 (omega arith) third.1.0 in
    let d = number_spelled 255 p.3 fourth.0 (omega arith) fourth.1.0 in
    let split : slice_split (λ b. eqb b 46) word ≡ decimal first.0 ∷ decimal second.0 ∷ decimal third.0 ∷ decimal fourth.0 ∷ [] =
    four_parts_are _ p parts.1.0 ∙ four_same _ _ _ _ _ _ _ _ a.0 b.0 c.0 d.0 in
    let value : from_be_bytes w32 (first.0 ∷ second.0 ∷ third.0 ∷ fourth.0 ∷ []) ≡ n = let found = fourth.1.1 in cc in
    let bytes : AreBytes first.0 second.0 third.0 fourth.0 = record { first = a.1; second = b.1; third = c.1; fourth = d.1 } in (
      sym (join_with_byte-slice_split 46 word) ∙ ap (join_with_byte 46) split ∙ text_of_bytes first.0 second.0 third.0 fourth.0 n bytes value,
      subst (λ (m : ℕ). m < 2 ^ 32) value (number_of_bytes first.0 second.0 third.0 fourth.0 bytes),
    )

-- ---- as std reads them

dotted_joined : (a b c d : ℕ) → dotted_text a b c d ≡ join_with_byte 46 (decimal a ∷ decimal b ∷ decimal c ∷ decimal d ∷ [])
dotted_joined a b c d = simp append_assoc

pub address_parsed : (word : List ℕ) (address : Ipv4Addr) → IsIpv4Text word address → address_of word ≡ Some (ipv4_bits address)
unfolding ipv4_bits
address_parsed word address h =
    let bytes : AreBytes h.a h.b h.c h.d =
    record { first = omega (arith, h.fit.0); second = omega (arith, h.fit.1); third = omega (arith, h.fit.2); fourth = omega (arith, h.fit.3) } in
    ap address_of (h.spelled ∙ dotted_joined h.a h.b h.c h.d)
    ∙ bytes_again h.a h.b h.c h.d bytes
    ∙ ap (λ (bytes : List ℕ). Some (from_be_bytes w32 bytes)) (sym h.value)

abbrev address_with : ℕ → Ipv4Addr
address_with n = record { octets = to_be_bytes w32 n }

text_of_address : (n : ℕ) → IsIpv4Text (address_text n) (address_with n)
text_of_address n = record {
  a = n / 16777216 % 256;
  b = n / 65536 % 256;
  c = n / 256 % 256;
  d = n % 256;
  fit = (omega arith, omega arith, omega arith, omega arith);
  value = refl;
  spelled = sym (dotted_joined (n / 16777216 % 256) (n / 65536 % 256) (n / 256 % 256) (n % 256));
}

none_where : (o : Option ℕ) → ((n : ℕ) → o ≡ Some n → ⊥) → o ≡ None
none_where None h = refl
none_where (Some n) h = absurd (h n refl)

pub address_unparsed : (word : List ℕ) → ((address : Ipv4Addr) → ¬ (IsIpv4Text word address)) → address_of word ≡ None
address_unparsed word h =
    none_where (address_of word) (λ n e.
    let spelled = address_spelled word n e in
    h (address_with n) (subst (λ (text : List ℕ). IsIpv4Text text (address_with n)) (sym spelled.0) (text_of_address n)))
