-- The words for LSAs.
use Rattle.std.specs.Prelude.{ℕ, List, [], ◌++◌, codes, decimal}
use Rattle.lsa_codec.specs.declared.key.Key.{Key}
use Rattle.lsa_codec.specs.Spelling.{address_text}
use Rattle.lsa_instances.specs.declared.place.Place.{Place}
use Rattle.lsa_instances.specs.declared.place.Scope.{Scope}
use Rattle.lsa_instances.specs.declared.place.Scope.TheVariants.{Area, AsWide}

-- what identifies an LSA in its scope (RFC 2328, 12.1)
abbrev pub key_text : Key → List ℕ
key_text key = codes "type " ++ decimal key.kind ++ codes " id " ++ address_text key.id.0 ++ codes " adv " ++ address_text key.adv.0

-- the area, with a space after it; nothing for the whole AS
abbrev pub scope_text : Scope → List ℕ
scope_text (Area area) = codes "area " ++ address_text area.0 ++ codes " "
scope_text AsWide = []

-- as `area 0.0.0.1 type 1 id 4.4.4.4 adv 4.4.4.4`, or `type 5 id 10.1.0.0 adv 4.4.4.4`
abbrev pub place_text : Place → List ℕ
place_text place = scope_text place.scope ++ key_text place.key
