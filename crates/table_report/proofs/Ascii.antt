-- Texts before texts, all of them ASCII.
use Rattle.std.proofs.Common.{◌≡◌, ℕ, ◌+◌, ◌<◌, ◌≤◌, ◌^◌, List, ◌∷◌, ◌++◌, decimal, drop, length, arith, subst, sym}
use Rattle.std.specs.Str.{IsAscii}
use Rattle.std.proofs.lemmas.List.{drop-drop, drop_all}
use Rattle.std.proofs.lemmas.Str.{IsAscii-append, IsAscii-drop}
use Rattle.std.proofs.lemmas.Str.Ascii.{IsAscii-cons, IsAscii-nil}
use Rattle.std.proofs.lemmas.Fmt.{IsAscii-decimal}

-- a number before an ASCII text
pub number_before : (n : ℕ) (old new : List ℕ) → n < 2 ^ 64 → new ≡ decimal n ++ old → IsAscii old → IsAscii new
number_before n old new fits is ascii = subst IsAscii (sym is) (IsAscii-append (decimal n) old (IsAscii-decimal n fits) ascii)

-- an ASCII character and a byte before an ASCII text
pub byte_before : (mark n : ℕ) (old new : List ℕ) → mark < 128 → n < 256 → new ≡ mark ∷ (decimal n ++ old) → IsAscii old → IsAscii new
byte_before mark n old new fits low is ascii =
    subst IsAscii (sym is) (IsAscii-cons mark (decimal n ++ old) fits (IsAscii-append (decimal n) old (IsAscii-decimal n (omega arith)) ascii))

-- what stands after the first character
pub after_ascii : (start : ℕ) (buffer : List ℕ) → IsAscii (drop start buffer) → IsAscii (drop (start + 1) buffer)
after_ascii start buffer ascii = subst IsAscii (drop-drop 1 start buffer) (IsAscii-drop (drop start buffer) 1 ascii)

-- nothing stands after the end
pub none_is_ascii : (buffer : List ℕ) (n : ℕ) → length buffer ≤ n → IsAscii (drop n buffer)
none_is_ascii buffer n long = subst IsAscii (sym (drop_all n buffer long)) IsAscii-nil
