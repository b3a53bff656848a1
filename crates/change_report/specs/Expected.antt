-- What is expected of pairs that are lost or gone, and of changes.
use Rattle.std.specs.Prelude.{ℕ, Bool, ◌==◌, nat_le, List, length}
use Rattle.std.specs.List.{list_all}
use Rattle.study_text.specs.Shown.{Called}
use Rattle.study_script.specs.Expected.{PairsAllowed, nothing, at_most, only}
use Rattle.change_lines.specs.ChangeTexts.{ChangesValue}
use Rattle.change_lines.specs.PairTexts.{is_listed, pairs_found, unlisted, unlisted_found}
use Rattle.change_lines.specs.declared.pair.Pair.{Pair}

-- there are no more pairs than are allowed; or the prefix of each is listed
abbrev pub are_allowed : PairsAllowed → List Pair → Bool
are_allowed nothing pairs = length pairs == 0
are_allowed (at_most most) pairs = nat_le (length pairs) most
are_allowed (only nets) pairs = list_all (λ pair. is_listed nets pair.net) pairs

-- what was found, after the word
abbrev pub found_text : Called → List ℕ → PairsAllowed → List Pair → List ℕ
found_text called word nothing pairs = pairs_found called word pairs
found_text called word (at_most most) pairs = pairs_found called word pairs
found_text called word (only nets) pairs = unlisted_found called word pairs (unlisted nets pairs)

-- no more changes than this number
abbrev pub are_few : ℕ → ChangesValue → Bool
are_few most changes = nat_le (length changes.names) most
