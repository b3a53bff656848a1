-- Sums of words, byte by byte.
use Rattle.std.proofs.Common.{◌≡◌, ℕ, ◌+◌, ◌*◌, ◌<◌, ◌≤◌, Bool, true, false, List, [], ◌∷◌, length, get_or, drop}
use Rattle.std.proofs.Common.{refl, ap, ◌∙◌, add-one}
use Rattle.std.proofs.Math.Seq.{drop-cons}
use Rattle.std.proofs.lemmas.List.{drop_all}
use Rattle.ospf_packets.specs.Checksums.{words_from}

cut : (bytes : List ℕ) (i : ℕ) → i < length bytes → drop i bytes ≡ get_or bytes i 0 ∷ drop (i + 1) bytes
cut bytes i lt = rw (add-one, drop-cons bytes i 0) refl

high : (byte : ℕ) (bytes : List ℕ) → words_from true (byte ∷ bytes) ≡ 256 * byte + words_from false bytes
unfolding words_from
high byte bytes = refl

low : (byte : ℕ) (bytes : List ℕ) → words_from false (byte ∷ bytes) ≡ byte + words_from true bytes
unfolding words_from
low byte bytes = refl

none : (is_high : Bool) → words_from is_high [] ≡ 0
unfolding words_from
none true = refl
none false = refl

pub high_more : (bytes : List ℕ) (i : ℕ) → i < length bytes
    → words_from true (drop i bytes) ≡ 256 * get_or bytes i 0 + words_from false (drop (i + 1) bytes)
high_more bytes i lt = ap (words_from true) (cut bytes i lt) ∙ high (get_or bytes i 0) (drop (i + 1) bytes)

pub low_more : (bytes : List ℕ) (i : ℕ) → i < length bytes
    → words_from false (drop i bytes) ≡ get_or bytes i 0 + words_from true (drop (i + 1) bytes)
low_more bytes i lt = ap (words_from false) (cut bytes i lt) ∙ low (get_or bytes i 0) (drop (i + 1) bytes)

pub none_left : (is_high : Bool) (bytes : List ℕ) (i : ℕ) → length bytes ≤ i → words_from is_high (drop i bytes) ≡ 0
none_left is_high bytes i le = ap (words_from is_high) (drop_all i bytes le) ∙ none is_high
