-- The members of an object, whose first ones are each followed by a comma.
use Rattle.std.proofs.Common.{◌≡◌, ℕ, List, [], ◌∷◌, ◌++◌, codes, map, sym, ap, ◌∙◌}
use Rattle.std.specs.Prelude.{flat_map}
use Rattle.std.proofs.lemmas.List.{append_assoc}
use Rattle.json.specs.Json.{Json}
use Rattle.study_json.specs.JsonText.{json_text, members_text, member_text}
use Rattle.study_json.specs.Fields.{members_by}

module _ {X : Type 0} (field : X → List ℕ × Json) (last : List ℕ × Json) where
  -- a member and a comma
  abbrev pub before : X → List ℕ
  before x = member_text (field x).0 (json_text (field x).1) ++ codes ","

  -- the last member, and the brace at the end
  abbrev pub end_text : List ℕ
  end_text = member_text last.0 (json_text last.1) ++ codes "}"

  pub commas_moved : (mark : List ℕ) (xs : List X)
      → members_text mark (members_by (map field xs ++ last ∷ [])) ≡ mark ++ (flat_map before xs ++ end_text)
  commas_moved mark [] = append_assoc mark (member_text last.0 (json_text last.1)) (codes "}")
  commas_moved mark (x ∷ xs) =
      let member = member_text (field x).0 (json_text (field x).1) in
      let more = flat_map before xs ++ end_text in
      append_assoc mark member (members_text (codes ",") (members_by (map field xs ++ last ∷ [])))
      ∙ ap (λ (l : List ℕ). mark ++ (member ++ l)) (commas_moved (codes ",") xs)
      ∙ ap (λ (l : List ℕ). mark ++ l) (sym (append_assoc member (codes ",") more))
      ∙ ap (λ (l : List ℕ). mark ++ l) (sym (append_assoc (before x) (flat_map before xs) end_text))
