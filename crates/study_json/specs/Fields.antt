-- Members of objects, as lists of keys with their values.
use Rattle.std.specs.Prelude.{ℕ, List, [], ◌∷◌, codes}
use Rattle.json.specs.Json.{Json, object, Members, no_members, member}
use Rattle.json.specs.Tree.{MembersHaveNumbers}
use Rattle.study_json.specs.JsonText.{members_text}

abbrev pub Fields : Type 0
Fields = List (List ℕ × Json)

abbrev pub members_by : Fields → Members
members_by [] = no_members
members_by (field ∷ fields) = member field.0 field.1 (members_by fields)

abbrev pub object_of : Fields → Json
object_of fields = object (members_by fields)

-- the last members of an object, each after a comma, and the brace at the end
abbrev pub more_text : Fields → List ℕ
more_text fields = members_text (codes ",") (members_by fields)

-- the numbers in them are numbers of JSON
abbrev pub HaveNumbers : Fields → Type 0
HaveNumbers fields = MembersHaveNumbers (members_by fields)
