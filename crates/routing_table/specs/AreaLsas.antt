-- The LSAs of the areas of a link state database (RFC 2328, 12.2).
use Rattle.std.specs.Prelude.{ℕ, List}
use Rattle.std.specs.List.{flat_map}
use Rattle.lsdb.specs.declared.section.Section.TheVariants.{Area}
use Rattle.lsdb.specs.Lists.{AreaHead, Lists, areas_of, lsas_of}

-- the LSAs of an area
abbrev pub lsas_in : Lists → AreaHead → List (List ℕ)
lsas_in db area = lsas_of (Area (record { 0 = area.id })) db

-- the LSAs of all areas
abbrev pub area_lsas : Lists → List (List ℕ)
area_lsas db = flat_map (lsas_in db) (areas_of db)
