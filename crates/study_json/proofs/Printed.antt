-- The text of a value is what a writer of JSON prints for it, so that it is read as this value.
use Rattle.std.proofs.Common.{◌≡◌, ℕ, ◌≤◌, Bool, true, false, cond, List, [], ◌++◌, codes, Some, refl, sym, ap, ◌∙◌}
use Rattle.std.proofs.lemmas.List.{append-nil, append_assoc}
use Rattle.json.specs.Token.{Token}
use Rattle.json.specs.Json.{Json, null, boolean, number, string, array, object, Items, no_items, item, Members, no_members, member, document, max_depth}
use Rattle.json.specs.Print.{print, print_from, quoted}
use Rattle.json.specs.Tree.{json_tokens, items_tokens, members_tokens, depth, HasNumbers}
use Rattle.json.proofs.Printed.Trees.{document-print}
use Rattle.study_json.specs.JsonText.{json_text, items_text, members_text, string_text}

-- a comma after a value
abbrev mark_of : Bool → List ℕ
mark_of after_value = cond after_value (codes ",") []

abbrev Prints : Bool → List Token → List ℕ → List Token → Type 0
Prints after_value tokens text rest = print_from after_value (tokens ++ rest) ≡ text ++ print_from true rest

module _ (mark key colon value more after : List ℕ) where
  in_order : mark ++ ((key ++ colon) ++ (value ++ (more ++ after))) ≡ ((mark ++ (key ++ (colon ++ value))) ++ more) ++ after
  in_order = simp append_assoc

-- a member and those after it
member_printed : (key : List ℕ) (j : Json) (ms : Members) (mark : List ℕ) (rest : List Token)
    → Prints false (json_tokens j) (json_text j) (members_tokens ms ++ rest) → Prints true (members_tokens ms) (members_text (codes ",") ms) rest
    → mark ++ ((quoted key ++ codes ":") ++ print_from false ((json_tokens j ++ members_tokens ms) ++ rest))
    ≡ members_text mark (member key j ms) ++ print_from true rest
unfolding string_text
member_printed key j ms mark rest value more =
    ap (λ (l : List Token). mark ++ ((quoted key ++ codes ":") ++ print_from false l)) (append_assoc (json_tokens j) (members_tokens ms) rest)
    ∙ ap (λ (l : List ℕ). mark ++ ((quoted key ++ codes ":") ++ l)) (value ∙ ap (λ (l : List ℕ). json_text j ++ l) more)
    ∙ in_order mark (quoted key) (codes ":") (json_text j) (members_text (codes ",") ms) (print_from true rest)

mutual
  unfolding print_from string_text

  value_printed : (v : Json) (b : Bool) (rest : List Token) → Prints b (json_tokens v) (mark_of b ++ json_text v) rest
  value_printed null true rest = refl
  value_printed null false rest = refl
  value_printed (boolean true) true rest = refl
  value_printed (boolean true) false rest = refl
  value_printed (boolean false) true rest = refl
  value_printed (boolean false) false rest = refl
  value_printed (number s) true rest = refl
  value_printed (number s) false rest = refl
  value_printed (string s) true rest = refl
  value_printed (string s) false rest = refl
  value_printed (array js) true rest = ap (λ (l : List ℕ). codes "," ++ (codes "[" ++ l)) (items_printed js false rest)
  value_printed (array js) false rest = ap (λ (l : List ℕ). codes "[" ++ l) (items_printed js false rest)
  value_printed (object ms) true rest = ap (λ (l : List ℕ). codes "," ++ (codes "{" ++ l)) (members_printed ms false rest)
  value_printed (object ms) false rest = ap (λ (l : List ℕ). codes "{" ++ l) (members_printed ms false rest)

  items_printed : (js : Items) (b : Bool) (rest : List Token) → Prints b (items_tokens js) (items_text (mark_of b) js) rest
  items_printed no_items true rest = refl
  items_printed no_items false rest = refl
  items_printed (item j js) b rest =
      ap (print_from b) (append_assoc (json_tokens j) (items_tokens js) rest) ∙ value_printed j b (items_tokens js ++ rest)
      ∙ ap (λ (l : List ℕ). (mark_of b ++ json_text j) ++ l) (items_printed js true rest)
      ∙ sym (append_assoc (mark_of b ++ json_text j) (items_text (codes ",") js) (print_from true rest))

  members_printed : (ms : Members) (b : Bool) (rest : List Token) → Prints b (members_tokens ms) (members_text (mark_of b) ms) rest
  members_printed no_members true rest = refl
  members_printed no_members false rest = refl
  members_printed (member key j ms) true rest =
      member_printed key j ms (codes ",") rest (value_printed j false (members_tokens ms ++ rest)) (members_printed ms true rest)
  members_printed (member key j ms) false rest =
      member_printed key j ms [] rest (value_printed j false (members_tokens ms ++ rest)) (members_printed ms true rest)

-- a value that stands alone
pub text_printed : (v : Json) → json_text v ≡ print (json_tokens v)
unfolding print_from
text_printed v =
    sym (ap print (sym (append-nil (json_tokens v))) ∙ value_printed v false [] ∙ append-nil (json_text v))

pub text_read : (v : Json) → HasNumbers v → depth v ≤ max_depth → document (json_text v) ≡ Some v
text_read v numbers shallow = ap document (text_printed v) ∙ document-print v numbers shallow
