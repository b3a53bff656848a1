-- The areas of a list, by how they are kept.
use Rattle.std.specs.Prelude.{List, []}
use Rattle.lsa_codec.specs.declared.address.AreaId.{AreaId}
use Rattle.best_ways.specs.declared.areas.Kept.{Kept}
use Rattle.best_ways.specs.declared.areas.Kept.TheVariants.{Nothing, One, Several}

abbrev pub areas_in : {A : Type 0} → Kept A → List AreaId
areas_in Nothing = []
areas_in (One areas) = areas
areas_in (Several areas) = areas.items
