-- How long the text of a dump is.
use Rattle.std.proofs.Common.{◌≡◌, ℕ, ◌+◌, List, [], ◌∷◌, ◌++◌, length, Option, Some, None}
use Rattle.std.proofs.Common.{refl, ap, arith}
use Rattle.std.specs.List.{flat_map, concat, sum_by}
use Rattle.std.specs.Int.{w8, w16, w32, to_be_bytes}
use Rattle.std.proofs.lemmas.List.{length-append}
use Rattle.std.proofs.lemmas.List.Concat.{flat_map-cons}
use Rattle.std.proofs.lemmas.List.Sums.{sum_by-cons}
use Rattle.lsdb.specs.Lists.{AreaHead, SectionLsas, Lists}
use Rattle.lsdb.specs.Lists.{head_size, lsas_size, section_size, size}
use Rattle.lsdb.specs.Text.{magic, version, head_text, section_text, area_count, text}
use Rattle.lsdb.specs.BaseText.{session_start, base_text}
use Rattle.lsdb.proofs.SectionText.{lsas_text}
use Rattle.lsdb.proofs.AreaText.{section_text-split}

concat_size : (lsas : List (List ℕ)) → length (concat lsas) ≡ lsas_size lsas
concat_size [] = refl
concat_size (x ∷ xs) = omega (arith, length-append x (concat xs), sum_by-cons length x xs, concat_size xs)

head_text_size : (area : Option AreaHead) → length (head_text area) + 2 ≡ head_size area
head_text_size None = refl
head_text_size (Some area) = refl

section_text_size : (s : SectionLsas) → length (section_text s) ≡ section_size s
section_text_size s =
    let count : List ℕ = to_be_bytes w16 (length s.lsas) in
    omega (
      arith,
      ap length (section_text-split s),
      length-append (head_text s.area)
          (lsas_text s.lsas),
      length-append count (concat s.lsas),
      head_text_size s.area,
      concat_size s.lsas,
    )

pub sections_size : (db : Lists) → length (flat_map section_text db) ≡ sum_by section_size db
sections_size [] = refl
sections_size (s ∷ ss) =
    omega (
      arith,
      ap length (flat_map-cons section_text s ss),
      length-append (section_text s)
          (flat_map section_text ss),
      section_text_size s,
      sum_by-cons section_size s ss,
      sections_size ss,
    )

pub text_size : (db : Lists) → length (text db) ≡ size db
unfolding text
text_size db =
    let start : List ℕ = to_be_bytes w32 magic ++ to_be_bytes w8 version ++ to_be_bytes w8 (area_count db) in
    omega (arith, length-append start (flat_map section_text db), sections_size db)

pub base_size : (db : Lists) → length (base_text db) ≡ size db
unfolding base_text
base_size db =
    let count : List ℕ = to_be_bytes w8 (area_count db) in
    omega (
      arith,
      length-append session_start (count ++ flat_map section_text db),
      length-append count (flat_map section_text db),
      sections_size db,
    )
