-- LSAs of which headers name a newer instance than any that a file has (RFC 2328, 13.1).
use Rattle.std.specs.Prelude.{◌≡◌, ◌&&◌, ◌||◌, Bool, not, if◌then◌else◌, List, map, Option, None, Some}
use Rattle.std.specs.List.{filter_map, flat_map, list_all, list_any}
use Rattle.std.specs.List.Sorted.{IsStrictlySortedBy}
use Rattle.std.specs.Ordering.{eq_by_cmp, is_lt}
use Rattle.lsa_instances.specs.declared.header.Header.{Header}
use Rattle.lsa_instances.specs.declared.header.InstanceId.{InstanceId}
use Rattle.lsa_instances.specs.declared.observation.Observation.{Observation}
use Rattle.lsa_instances.specs.declared.place.Place.{Place}
use Rattle.lsa_instances.specs.Headers.{is_at_max_age}
use Rattle.lsa_instances.specs.Instance.{instance_id_cmp, instance_id_of}
use Rattle.lsa_instances.specs.Order.{place_cmp, place_of}
use Rattle.network_files.specs.declared.parsed_file.ParsedFile.{ParsedFile}
use Rattle.capture_report.specs.Sets.{has}

-- an instance of an LSA, whatever its age
abbrev pub Instance : Type 0
Instance = Place × InstanceId

-- the instance that a header names, unless it is at MaxAge: then it flushes the LSA (14.1)
abbrev pub instance_named : Header → Option Instance
instance_named header = if is_at_max_age header then None else Some (header.place, header.instance)

-- the instance that is seen, at whatever age
abbrev pub of_observation : {A : Type 0} → Observation A → Instance
of_observation seen = (place_of seen, instance_id_of seen.lsa)

-- of all files, one after another
abbrev pub headers_of : {A : Type 0} → List (ParsedFile A) → List Instance
headers_of files = flat_map (λ file. filter_map instance_named file.headers.items) files

abbrev pub shown_of : {A : Type 0} → List (ParsedFile A) → List Instance
shown_of files = flat_map (λ file. map of_observation file.observations.items) files

abbrev pub is_same_lsa : Place → Instance → Bool
is_same_lsa lsa other = eq_by_cmp place_cmp lsa other.0

-- of another LSA, or older
abbrev pub is_other_or_older : Place → InstanceId → Instance → Bool
is_other_or_older lsa instance other = not (is_same_lsa lsa other) || is_lt (instance_id_cmp other.1 instance)

-- an instance of the LSA is shown, and each that is shown is older
abbrev pub is_newer : List Instance → Instance → Bool
is_newer shown one = list_any (is_same_lsa one.0) shown && list_all (is_other_or_older one.0 one.1) shown

-- the LSAs of which a header is newer than all that is shown, each once, in order
pub record AreNewer (headers shown : List Instance) (newer : List Place) : Type 0 where
  pub which : (lsa : Place) → has place_cmp lsa newer ≡ list_any (λ one. is_same_lsa lsa one && is_newer shown one) headers
  pub order : IsStrictlySortedBy place_cmp newer
