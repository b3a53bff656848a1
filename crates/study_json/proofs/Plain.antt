-- Texts of which no byte needs an escape in a string.
use Rattle.std.proofs.Common.{◌≡◌, ℕ, ◌==◌, ◌||◌, ◌<◌, ◌≤◌, ◌^◌, false, List, [], ◌∷◌, ◌++◌, codes, decimal, Result, refl, sym, ap, ap₂, ◌∙◌, arith}
use Rattle.std.specs.Prelude.{OnOk}
use Rattle.std.proofs.lemmas.List.{append_assoc}
use Rattle.std.proofs.lemmas.Bool.{eqb-false, le-ltb, ltb-false, ne_eqb, or_parts}
use Rattle.std.proofs.lemmas.List.Concat.{flat_map-append}
use Rattle.std.proofs.lemmas.List.Elements.{All-head, All-tail}
use Rattle.json.specs.Print.{escape, escape_byte}
use Rattle.json.specs.Run.{is_stop}
use Rattle.json.proofs.Printed.Strings.{escape_byte_plain}
use Rattle.lsa_codec.specs.Prefix.{Net}
use Rattle.lsa_codec.specs.Spelling.{address_text, prefix_text}
use Rattle.text_words.proofs.AddressLemmas.{Lacks-address}
use Rattle.text_words.proofs.NumberLemmas.{Lacks-decimal, SparesDigits}
use Rattle.text_words.proofs.PartLemmas.{Lacks}
use Rattle.route_lines.specs.declared.path_end.PathEnd.{PathEnd}
use Rattle.route_lines.specs.declared.path_end.PathEnd.TheVariants.{Delivered, External, Blackhole, Loop}
use Rattle.route_lines.specs.PathTexts.{end_text}
use Rattle.next_hops.specs.declared.hop.Hop.{Hop}
use Rattle.next_hops.specs.declared.hop.Hop.TheVariants.{Connected, Link, Attached, Gateway}
use Rattle.next_hops.specs.Hop.{hop_text}
use Rattle.study_json.specs.JsonText.{string_text}
use Rattle.study_json.proofs.Outcomes.{on_ok}

-- no byte is escaped
abbrev pub IsPlain : List ℕ → Type 0
IsPlain text = escape text ≡ text

abbrev GoesOn : ℕ → Type 0
GoesOn x = is_stop x ≡ false

byte_plain : (x : ℕ) → GoesOn x → escape_byte x ≡ x ∷ []
byte_plain x h =
    let parts = or_parts ((x == 34) || (x == 92)) _ h in
    let quotes = or_parts (x == 34) (x == 92) parts.0 in
    escape_byte_plain x (eqb-false x 34 quotes.0) (eqb-false x 92 quotes.1) (ltb-false x 32 parts.1)

lacking : (text : List ℕ) → Lacks is_stop text → IsPlain text
lacking [] h = refl
lacking (x ∷ xs) h =
    ap₂ (λ (front rest : List ℕ). front ++ rest) (byte_plain x (All-head GoesOn x xs h)) (lacking xs (All-tail GoesOn x xs h))

spares : SparesDigits is_stop
spares = record {
  spares = λ b low high.
      ap₂ (λ x y. x || y) (ap₂ (λ x y. x || y) (ne_eqb b 34 (λ e. omega arith)) (ne_eqb b 92 (λ e. omega arith))) (le-ltb b 32 (omega arith));
}

-- ---- parts

pub joined_plain : (front rest : List ℕ) → IsPlain front → IsPlain rest → IsPlain (front ++ rest)
joined_plain front rest e f = flat_map-append escape_byte front rest ∙ ap₂ (λ (x y : List ℕ). x ++ y) e f

pub decimal_plain : (n : ℕ) → n < 2 ^ 64 → IsPlain (decimal n)
decimal_plain n h = lacking (decimal n) (Lacks-decimal is_stop spares n h)

pub address_plain : (n : ℕ) → IsPlain (address_text n)
address_plain n = lacking (address_text n) (Lacks-address is_stop spares refl n)

slash_plain : IsPlain (codes "/")
unfolding escape_byte
slash_plain = refl

pub prefix_plain : (net : Net) → net.len ≤ 32 → IsPlain (prefix_text net)
prefix_plain net short =
    joined_plain (address_text net.addr.0 ++ codes "/") (decimal net.len)
    (joined_plain (address_text net.addr.0) (codes "/") (address_plain net.addr.0) slash_plain) (decimal_plain net.len (omega arith))

-- the text of a prefix, when an address and a length were added one after the other
pub prefix_shown : (net : Net) (address len : ℕ) (opened mid shown : List ℕ) → address ≡ net.addr.0 → len ≡ net.len
    → mid ≡ opened ++ address_text address → shown ≡ mid ++ (codes "/" ++ decimal len) → shown ≡ opened ++ prefix_text net
prefix_shown net address len opened mid shown at long is are =
    are ∙ ap (λ (l : List ℕ). l ++ (codes "/" ++ decimal len)) is ∙ append_assoc opened (address_text address) (codes "/" ++ decimal len)
    ∙ ap (λ (l : List ℕ). opened ++ l) (sym (append_assoc (address_text address) (codes "/") (decimal len)))
    ∙ ap₂ (λ (a n : ℕ). opened ++ ((address_text a ++ codes "/") ++ decimal n)) at long

pub type_plain : (code : ℕ) → code < 2 ^ 64 → IsPlain (codes "type " ++ decimal code)
unfolding escape_byte
type_plain code h = joined_plain (codes "type ") (decimal code) refl (decimal_plain code h)

pub end_plain : (end : PathEnd) → IsPlain (end_text end)
unfolding escape_byte
end_plain Delivered = refl
end_plain External = refl
end_plain Blackhole = refl
end_plain Loop = refl

pub hop_plain : (hop : Hop) → IsPlain (hop_text hop)
unfolding escape_byte
hop_plain Connected = refl
hop_plain (Link d) = joined_plain (codes "link:") (address_text d.0) refl (address_plain d.0)
hop_plain (Attached d) = joined_plain (codes "attached:") (address_text d.0) refl (address_plain d.0)
hop_plain (Gateway d a) =
    joined_plain (codes "gateway:" ++ address_text d.0 ++ codes ":") (address_text a.0)
    (joined_plain (codes "gateway:" ++ address_text d.0) (codes ":")
    (joined_plain (codes "gateway:") (address_text d.0) refl (address_plain d.0)) refl) (address_plain a.0)

-- a plain text between quotes, after what was written before
pub between_quotes : {T E : Type 0} (result : Result T E) (old opened text shown now : List ℕ) → IsPlain text → opened ≡ old ++ codes "\""
    → shown ≡ opened ++ text → OnOk result (now ≡ shown ++ codes "\"") → OnOk result (now ≡ old ++ string_text text)
unfolding string_text
between_quotes result old opened text shown now plain opens shows closes =
    on_ok result
    (λ closed. closed ∙ ap (λ (l : List ℕ). l ++ codes "\"") (shows ∙ ap (λ (l : List ℕ). l ++ text) opens)
    ∙ append_assoc (old ++ codes "\"") text (codes "\"") ∙ append_assoc old (codes "\"") (text ++ codes "\"")
    ∙ ap (λ (l : List ℕ). old ++ (34 ∷ (l ++ 34 ∷ []))) (sym plain))
    closes
