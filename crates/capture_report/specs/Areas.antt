-- The areas in a file.
use Rattle.std.specs.Prelude.{List, ◌++◌, map, Option, None, Some}
use Rattle.std.specs.List.{filter_map}
use Rattle.lsa_codec.specs.declared.address.AreaId.{AreaId}
use Rattle.lsa_instances.specs.declared.place.Scope.{Scope}
use Rattle.lsa_instances.specs.declared.place.Scope.TheVariants.{Area, AsWide}
use Rattle.network_files.specs.declared.parsed_file.ParsedFile.{ParsedFile}

abbrev pub area_in : Scope → Option AreaId
area_in (Area id) = Some id
area_in AsWide = None

-- those whose kind it reports, and then those of its LSAs, each as often as it occurs
abbrev pub reported_areas : {A : Type 0} → ParsedFile A → List AreaId
reported_areas file = map (λ area. area.id) file.areas.items ++ filter_map (λ observation. area_in observation.scope) file.observations.items
