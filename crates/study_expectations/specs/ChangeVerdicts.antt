-- Conditions about what differs from the baseline.
use Rattle.std.specs.Prelude.{ℕ, Bool, true, List, [], ◌∷◌, Option, None, Some}
use Rattle.std.specs.Option.{option_map_or}
use Rattle.lsa_codec.specs.declared.address.RouterId.{RouterId}
use Rattle.lsdb.specs.Lists.{Lists}
use Rattle.study_script.specs.Expected.{PairsAllowed}
use Rattle.study_text.specs.Shown.{Called}
use Rattle.change_lines.specs.declared.pair.Pair.{Pair}
use Rattle.change_lines.specs.ChangeTexts.{ChangesValue, changes_found}
use Rattle.comparison.specs.Named.{all_changes, changes_for}
use Rattle.change_report.specs.Expected.{are_allowed, are_few, found_text as pairs_found}
use Rattle.study_answers.specs.Known.{is_known}
use Rattle.study_answers.specs.Missing.{beside}
use Rattle.study_expectations.specs.Verdicts.{VerdictValue, found, is_none, unless_no_router}

-- pairs of a router and a prefix that are lost, or gone: no more than are allowed
unfoldable pub pairs_verdict : Called → List ℕ → PairsAllowed → List Pair → VerdictValue
pairs_verdict called word allowed pairs = found (are_allowed allowed pairs) (pairs_found called word allowed pairs)

unfoldable pub changes_verdict : Called → Bool → ChangesValue → VerdictValue
changes_verdict called holds changes = found holds (changes_found called changes.names)

-- what differs for a router, or for all
unfoldable pub changes_beside : Lists → Lists → Option RouterId → ChangesValue
changes_beside baseline db None = all_changes (beside baseline db)
changes_beside baseline db (Some router) = changes_for (beside baseline db) (router ∷ [])

-- a router that is named is attached
abbrev pub is_known_if_named : Lists → Lists → Option RouterId → Bool
is_known_if_named baseline db router = option_map_or (is_known baseline db) router true

unfoldable pub same_verdict : Called → Lists → Lists → Option RouterId → VerdictValue
same_verdict called baseline db router =
    unless_no_router (is_known_if_named baseline db router)
    (changes_verdict called (is_none (changes_beside baseline db router).names) (changes_beside baseline db router))

unfoldable pub few_verdict : Called → Lists → Lists → ℕ → VerdictValue
few_verdict called baseline db most = changes_verdict called (are_few most (changes_beside baseline db None)) (changes_beside baseline db None)
