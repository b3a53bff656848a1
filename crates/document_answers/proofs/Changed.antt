-- What differs from the baseline: from the comparison to the document.
use Rattle.std.proofs.Common.{◌≡◌, [], ◌∷◌, true, Option, None, Some, sym, ap, subst, ◌∙◌}
use Rattle.lsa_codec.specs.declared.address.RouterId.{RouterId}
use Rattle.lsdb.specs.Lists.{Lists}
use Rattle.change_lines.specs.ChangeTexts.{ChangesValue}
use Rattle.comparison.specs.Compared.{Compared}
use Rattle.comparison.specs.Named.{all_changes, changes_for}
use Rattle.study_answers.specs.Known.{is_known}
use Rattle.study_answers.specs.Missing.{beside}
use Rattle.study_json.specs.Fields.{Fields}
use Rattle.document_answers.specs.ChangeDocuments.{IsChangesDocument, changes_members}
use Rattle.document_answers.specs.Documented.{DocumentedValue, HasMembers, IfThere}

module _ (baseline db : Lists) (both : Compared) (is : both ≡ beside baseline db) where
  -- what differs for these
  changed : (router : Option RouterId) (changes : ChangesValue) (changes_in : Compared → ChangesValue) → changes ≡ changes_in both
      → changes_members both.baseline both.present router changes ≡ changes_members baseline db router (changes_in (beside baseline db))
  changed router changes changes_in are =
      ap (λ (c : Compared). changes_members c.baseline c.present router changes) is
      ∙ ap (changes_members baseline db router) (are ∙ ap changes_in is)

  pub for_all : (router : Option RouterId) (changes : ChangesValue) (d : DocumentedValue) → router ≡ None → changes ≡ all_changes both
      → HasMembers (changes_members both.baseline both.present None changes) d → IsChangesDocument baseline db router d
  unfolding IsChangesDocument
  for_all router changes d none are has =
      subst (λ (r : Option RouterId). IsChangesDocument baseline db r d) (sym none)
      (subst (λ (fields : Fields). HasMembers fields d) (changed None changes all_changes are) has)

module _ (baseline db : Lists) where
  pub for_one : (router : Option RouterId) (one : RouterId) (d : DocumentedValue) → router ≡ Some one → is_known baseline db one ≡ true
      → HasMembers (changes_members baseline db (Some one) (changes_for (beside baseline db) (one ∷ []))) d → IsChangesDocument baseline db router d
  unfolding IsChangesDocument
  for_one router one d some known has =
      let one_changes = changes_members baseline db (Some one) (changes_for (beside baseline db) (one ∷ [])) in
      subst (λ (r : Option RouterId). IsChangesDocument baseline db r d) (sym some)
      (subst (λ b. IfThere b d (HasMembers one_changes d)) (sym known) has)
