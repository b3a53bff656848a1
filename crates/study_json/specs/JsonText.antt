-- The text of a JSON value (RFC 8259): without spaces, items and members in their order.
use Rattle.std.specs.Prelude.{ℕ, if◌then◌else◌, List, [], ◌++◌, codes}
use Rattle.json.specs.Json.{Json, null, boolean, number, string, array, object, Items, no_items, item, Members, no_members, member}
use Rattle.json.specs.Print.{quoted}

-- a string: between quotes, `"`, `\` and control characters escaped (section 7)
unfoldable pub string_text : List ℕ → List ℕ
string_text bytes = quoted bytes

-- a key, and the text of its value
abbrev pub member_text : List ℕ → List ℕ → List ℕ
member_text key value = string_text key ++ (codes ":" ++ value)

abbrev mutual
  pub json_text : Json → List ℕ
  json_text null = codes "null"
  json_text (boolean b) = if b then codes "true" else codes "false"
  json_text (number digits) = digits
  json_text (string bytes) = string_text bytes
  json_text (array js) = codes "[" ++ items_text [] js
  json_text (object ms) = codes "{" ++ members_text [] ms

  -- the first item after a mark, the others after commas, and the bracket at the end
  pub items_text : List ℕ → Items → List ℕ
  items_text mark no_items = codes "]"
  items_text mark (item j js) = (mark ++ json_text j) ++ items_text (codes ",") js

  -- the same of members, and the brace at the end
  pub members_text : List ℕ → Members → List ℕ
  members_text mark no_members = codes "}"
  members_text mark (member key j ms) = (mark ++ member_text key (json_text j)) ++ members_text (codes ",") ms
