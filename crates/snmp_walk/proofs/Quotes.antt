-- Bytes between quotes, one after another.
use Rattle.std.proofs.Common.{◌≡◌, ℕ, ◌+◌, ◌<◌, ◌≤◌, Bool, true, false, eqb, cond, List}
use Rattle.std.proofs.Common.{[], ◌∷◌, ◌++◌, length, get_or, drop, Some, None, refl, ap, ◌∙◌, add-one}
use Rattle.std.specs.List.{list_all}
use Rattle.std.proofs.Math.Seq.{drop-cons}
use Rattle.std.proofs.lemmas.List.{drop_all}
use Rattle.snmp_walk.specs.Text.{is_blank}
use Rattle.snmp_walk.specs.Values.{quoted_after}

cut : (text : List ℕ) (i : ℕ) → i < length text → drop i text ≡ get_or text i 0 ∷ drop (i + 1) text
cut text i lt = rw (add-one, drop-cons text i 0) refl

pub quoted_escaped : (bytes text : List ℕ) (i : ℕ) → i < length text
    → quoted_after bytes true (drop i text) ≡ quoted_after (bytes ++ get_or text i 0 ∷ []) false (drop (i + 1) text)
unfolding quoted_after
quoted_escaped bytes text i lt = ap (quoted_after bytes true) (cut text i lt)

pub closing : (bytes : List ℕ) (byte : ℕ) (text : List ℕ) → eqb byte 0x22 ≡ true
    → quoted_after bytes false (byte ∷ text) ≡ cond (list_all is_blank text) (Some bytes) None
unfolding quoted_after
closing bytes byte text h = rw h refl

pub escaping : (bytes : List ℕ) (byte : ℕ) (text : List ℕ) → eqb byte 0x22 ≡ false → eqb byte 0x5c ≡ true
    → quoted_after bytes false (byte ∷ text) ≡ quoted_after bytes true text
unfolding quoted_after
escaping bytes byte text h k = rw (h, k) refl

pub plain : (bytes : List ℕ) (byte : ℕ) (text : List ℕ) → eqb byte 0x22 ≡ false → eqb byte 0x5c ≡ false
    → quoted_after bytes false (byte ∷ text) ≡ quoted_after (bytes ++ byte ∷ []) false text
unfolding quoted_after
plain bytes byte text h k = rw (h, k) refl

pub quoted_closing : (bytes text : List ℕ) (i : ℕ) → i < length text → eqb (get_or text i 0) 0x22 ≡ true
    → quoted_after bytes false (drop i text) ≡ cond (list_all is_blank (drop (i + 1) text)) (Some bytes) None
quoted_closing bytes text i lt h = ap (quoted_after bytes false) (cut text i lt) ∙ closing bytes (get_or text i 0) (drop (i + 1) text) h

pub quoted_escaping : (bytes text : List ℕ) (i : ℕ) → i < length text → eqb (get_or text i 0) 0x22 ≡ false → eqb (get_or text i 0) 0x5c ≡ true
    → quoted_after bytes false (drop i text) ≡ quoted_after bytes true (drop (i + 1) text)
quoted_escaping bytes text i lt h k = ap (quoted_after bytes false) (cut text i lt) ∙ escaping bytes (get_or text i 0) (drop (i + 1) text) h k

pub quoted_plain : (bytes text : List ℕ) (i : ℕ) → i < length text → eqb (get_or text i 0) 0x22 ≡ false → eqb (get_or text i 0) 0x5c ≡ false
    → quoted_after bytes false (drop i text) ≡ quoted_after (bytes ++ get_or text i 0 ∷ []) false (drop (i + 1) text)
quoted_plain bytes text i lt h k = ap (quoted_after bytes false) (cut text i lt) ∙ plain bytes (get_or text i 0) (drop (i + 1) text) h k

nothing_left : (bytes : List ℕ) (escaped : Bool) → quoted_after bytes escaped [] ≡ None
unfolding quoted_after
nothing_left bytes true = refl
nothing_left bytes false = refl

pub quoted_open : (bytes text : List ℕ) (escaped : Bool) (i : ℕ) → length text ≤ i → quoted_after bytes escaped (drop i text) ≡ None
quoted_open bytes text escaped i le = ap (quoted_after bytes escaped) (drop_all i text le) ∙ nothing_left bytes escaped
