-- Steps towards what a walk contains: what begins at one of its lines.
use Rattle.std.specs.Prelude.{ℕ, ◌==◌, List, [], ◌∷◌, Option, Some, None, if◌then◌else◌}
use Rattle.snmp_walk.specs.declared.parsed_object.ParsedObject.{ParsedObject}
use Rattle.snmp_walk.specs.Objects.{Object, object_at}
use Rattle.snmp_walk.specs.ParsedObjects.{parsed_by}
use Rattle.snmp_walk.specs.Text.{line_feed}

module _ {A : Type 0} where
  abbrev pub parsed_option : Option Object → List (ParsedObject A)
  parsed_option None = []
  parsed_option (Some object) = parsed_by object ∷ []

  -- what the object contains that begins here
  unfoldable pub parsed_at : List ℕ → List (ParsedObject A)
  parsed_at text = parsed_option (object_at text)

  -- what the object contains that begins after the line feed here
  unfoldable pub parsed_after : List ℕ → List (ParsedObject A)
  parsed_after [] = []
  parsed_after (byte ∷ text) = if byte == line_feed then parsed_at text else []
