-- LSAs that headers name, and those of which files have instances (RFC 2328, A.3.3, A.3.6).
use Rattle.std.specs.Prelude.{if◌then◌else◌, List, map, Option, None, Some}
use Rattle.std.specs.List.{filter_map, flat_map}
use Rattle.lsa_instances.specs.declared.header.Header.{Header}
use Rattle.lsa_instances.specs.declared.place.Place.{Place}
use Rattle.lsa_instances.specs.Headers.{is_at_max_age}
use Rattle.lsa_instances.specs.Order.{place_of}
use Rattle.network_files.specs.declared.parsed_file.ParsedFile.{ParsedFile}

-- the LSA that a header names, unless it is at MaxAge: then it flushes the LSA (14.1)
abbrev pub named_by : Header → Option Place
named_by header = if is_at_max_age header then None else Some header.place

-- of all files, one after another
abbrev pub all_named : {A : Type 0} → List (ParsedFile A) → List Place
all_named files = flat_map (λ file. filter_map named_by file.headers.items) files

-- the LSAs of which the files have instances, one after another
abbrev pub all_shown : {A : Type 0} → List (ParsedFile A) → List Place
all_shown files = flat_map (λ file. map place_of file.observations.items) files
