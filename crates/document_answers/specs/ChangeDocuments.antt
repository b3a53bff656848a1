-- The documents about what differs from the baseline.
use Rattle.std.specs.Prelude.{List, [], ◌∷◌, Option, None, Some, codes}
use Rattle.lsa_codec.specs.declared.address.RouterId.{RouterId}
use Rattle.lsdb.specs.Lists.{Lists}
use Rattle.change_lines.specs.ChangeTexts.{ChangesValue}
use Rattle.change_lines.specs.PairTexts.{PairLineValue}
use Rattle.comparison.specs.Named.{all_changes, changes_for}
use Rattle.change_report.specs.Lines.{lines_of_changes}
use Rattle.lsa_differences.specs.Differences.{differences}
use Rattle.finding_json.specs.Differences.{differences_reply}
use Rattle.study_json.specs.Changes.{pair_json}
use Rattle.study_json.specs.Fields.{Fields}
use Rattle.study_documents.specs.Replies.{changes_reply, listing}
use Rattle.study_answers.specs.declared.missing.Missing.{Missing}
use Rattle.study_answers.specs.Known.{is_known}
use Rattle.study_answers.specs.Missing.{beside, missing_lines}
use Rattle.document_answers.specs.Documented.{DocumentedValue, HasMembers, IfThere}

module _ (baseline db : Lists) where
  abbrev pub changes_members : Option RouterId → ChangesValue → Fields
  changes_members router changes = changes_reply router changes (lines_of_changes (beside baseline db) changes.names)

  -- what differs, of one router or of all
  unfoldable pub IsChangesDocument : Option RouterId → DocumentedValue → Type 0
  IsChangesDocument None given = HasMembers (changes_members None (all_changes (beside baseline db))) given
  IsChangesDocument (Some router) given =
      IfThere (is_known baseline db router) given
      (HasMembers (changes_members (Some router) (changes_for (beside baseline db) (router ∷ []))) given)

  -- the areas and LSAs that differ
  unfoldable pub IsDifferencesDocument : DocumentedValue → Type 0
  IsDifferencesDocument given = HasMembers (differences_reply (differences baseline db)) given

  abbrev pub pairs_reply : List PairLineValue → Fields
  pairs_reply pairs = listing (codes "pairs") pair_json pairs

  -- routers with prefixes that they have no entry for any more
  unfoldable pub IsMissingDocument : Missing → DocumentedValue → Type 0
  IsMissingDocument missing given = HasMembers (pairs_reply (missing_lines missing (beside baseline db))) given
