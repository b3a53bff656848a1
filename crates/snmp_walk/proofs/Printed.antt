-- What is printed of bytes is read as these bytes.
use Rattle.std.proofs.Common.{◌≡◌, ℕ, Bool, true, false, eqb, cond, ◌||◌, List, [], ◌∷◌, ◌++◌, append_assoc, codes, Some, None, refl, sym, ap, ◌∙◌}
use Rattle.std.specs.List.{list_all}
use Rattle.std.proofs.lemmas.List.{append-nil}
use Rattle.hex.specs.Hex.{IsBytes, decode_of}
use Rattle.hex.proofs.HexLemmas.{decode_of-encode_upper}
use Rattle.snmp_walk.specs.Text.{is_blank}
use Rattle.snmp_walk.specs.Values.{bytes_in, ok, pairs_of, quoted_after, string_in}
use Rattle.snmp_walk.specs.Printing.{AreDigitsOf, between_quotes, escaped, hex_value, is_special}
use Rattle.snmp_walk.proofs.Quotes.{closing, escaping, plain}

after_hex : (text : List ℕ) → bytes_in (hex_value text) ≡ pairs_of text
after_hex text = refl

pub hex_read : (bytes text : List ℕ) → IsBytes bytes → AreDigitsOf bytes text → bytes_in (hex_value text) ≡ Some bytes
hex_read bytes text h e =
    after_hex text ∙ ap (λ (digits : List ℕ). ok (decode_of digits)) e ∙ ap ok (decode_of-encode_upper bytes h)

after_backslash : (read rest : List ℕ) (byte : ℕ) → quoted_after read true (byte ∷ rest) ≡ quoted_after (read ++ byte ∷ []) false rest
unfolding quoted_after
after_backslash read rest byte = refl

one_more : (b c : Bool) (byte : ℕ) (read rest : List ℕ) → eqb byte 0x22 ≡ b → eqb byte 0x5c ≡ c
    → quoted_after read false (cond (b || c) (0x5c ∷ byte ∷ rest) (byte ∷ rest)) ≡ quoted_after (read ++ byte ∷ []) false rest
one_more true c byte read rest h k = escaping read 0x5c (byte ∷ rest) refl refl ∙ after_backslash read rest byte
one_more false true byte read rest h k = escaping read 0x5c (byte ∷ rest) refl refl ∙ after_backslash read rest byte
one_more false false byte read rest h k = plain read byte rest h k

along : (b : Bool) (byte : ℕ) (rest tail : List ℕ)
    → cond b (0x5c ∷ byte ∷ rest) (byte ∷ rest) ++ tail ≡ cond b (0x5c ∷ byte ∷ (rest ++ tail)) (byte ∷ (rest ++ tail))
along true byte rest tail = refl
along false byte rest tail = refl

read_on : (bytes read blanks : List ℕ) → list_all is_blank blanks ≡ true
    → quoted_after read false (escaped bytes ++ 0x22 ∷ blanks) ≡ Some (read ++ bytes)
read_on [] read blanks h =
    closing read 0x22 blanks refl ∙ ap (λ (b : Bool). cond b (Some read) None) h ∙ ap Some (sym (append-nil read))
read_on (byte ∷ bytes) read blanks h =
    ap (quoted_after read false) (along (is_special byte) byte (escaped bytes) (0x22 ∷ blanks))
    ∙ one_more (eqb byte 0x22) (eqb byte 0x5c) byte read (escaped bytes ++ 0x22 ∷ blanks) refl refl
    ∙ read_on bytes (read ++ byte ∷ []) blanks h
    ∙ ap Some (append_assoc read (byte ∷ []) bytes)

quotes_read : (bytes blanks : List ℕ) → list_all is_blank blanks ≡ true
    → quoted_after [] false ((escaped bytes ++ 0x22 ∷ []) ++ blanks) ≡ Some bytes
quotes_read bytes blanks h = ap (quoted_after [] false) (append_assoc (escaped bytes) (0x22 ∷ []) blanks) ∙ read_on bytes [] blanks h

pub string_read : (bytes blanks : List ℕ) → list_all is_blank blanks ≡ true
    → bytes_in (codes "STRING: " ++ between_quotes bytes ++ blanks) ≡ Some bytes
unfolding string_in
string_read bytes blanks h = quotes_read bytes blanks h

pub alone_read : (bytes blanks : List ℕ) → list_all is_blank blanks ≡ true → bytes_in (between_quotes bytes ++ blanks) ≡ Some bytes
unfolding string_in
alone_read bytes blanks h = quotes_read bytes blanks h
