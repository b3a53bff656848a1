-- A document has one content.
use Rattle.std.proofs.Common.{◌≡◌, ◌∙◌, ℕ, sym, ap, true≢false, List}
use Rattle.std.proofs.lemmas.Option.{none-some, same_Some}
use Rattle.std.specs.Prelude.{true, false, Option, Some, None, option_map}
use Rattle.findings.specs.Contents.{ContentLists}
use Rattle.json.specs.Json.{Json, document}
use Rattle.frr_json.specs.Contents.{HasContent}
use Rattle.frr_json.specs.ParsedDocuments.{has_database}

module _ {A : Type 0} (bytes : List ℕ) where
  pub one_document : (one two : ContentLists A) → HasContent bytes one → HasContent bytes two → one ≡ two
  one_document one two a b = same_Some one two (sym a.whole ∙ b.whole)

  pub no_lack : (content : ContentLists A) → HasContent bytes content → option_map has_database (document bytes) ≡ Some false → ⊥
  no_lack content a h = true≢false (same_Some true false (sym a.database ∙ h))

  pub is_document : (content : ContentLists A) → HasContent bytes content → document bytes ≡ None → ⊥
  is_document content a h = none-some true (sym (ap (λ (read : Option Json). option_map has_database read) h) ∙ a.database)
