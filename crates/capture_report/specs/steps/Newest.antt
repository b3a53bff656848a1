-- Steps towards the LSAs of which a header is newer: the newest instance of each LSA that is shown.
use Rattle.std.specs.Prelude.{◌≡◌, ◌&&◌, Bool, true, false, not, if◌then◌else◌, List, Option, None, Some}
use Rattle.std.specs.BTreeMap.{BTreeMap, get}
use Rattle.std.specs.List.{filter_map, flat_map, list_all, list_any}
use Rattle.std.specs.Option.{is_some}
use Rattle.std.specs.Ordering.{is_gt, is_lt}
use Rattle.lsa_instances.specs.declared.header.Header.{Header}
use Rattle.lsa_instances.specs.declared.header.InstanceId.{InstanceId}
use Rattle.lsa_instances.specs.declared.place.Place.{Place}
use Rattle.lsa_instances.specs.Headers.{is_at_max_age}
use Rattle.lsa_instances.specs.Instance.{instance_id_cmp}
use Rattle.lsa_instances.specs.Order.{place_cmp}
use Rattle.network_files.specs.declared.parsed_file.ParsedFile.{ParsedFile}
use Rattle.capture_report.specs.Newer.{Instance, is_other_or_older, is_same_lsa}

-- the newest, with one more instance
abbrev pub newest_with : Option InstanceId → InstanceId → InstanceId
newest_with None instance = instance
newest_with (Some known) instance = if is_gt (instance_id_cmp known instance) then known else instance

-- all that are shown are older
abbrev pub is_over : Option InstanceId → InstanceId → Bool
is_over None instance = true
is_over (Some known) instance = is_lt (instance_id_cmp known instance)

-- some are shown, and all of them are older
abbrev pub is_over_some : Option InstanceId → InstanceId → Bool
is_over_some None instance = false
is_over_some (Some known) instance = is_lt (instance_id_cmp known instance)

-- there is a newest instance of each LSA that is shown, and what is newer than it is newer than all that are shown
pub record AreNewest (shown : List Instance) (newest : BTreeMap Place InstanceId) : Type 0 where
  pub which : (lsa : Place) → is_some (get place_cmp newest lsa) ≡ list_any (is_same_lsa lsa) shown
  pub over : (lsa : Place) (instance : InstanceId) → is_over (get place_cmp newest lsa) instance ≡ list_all (is_other_or_older lsa instance) shown

-- below MaxAge, and newer than the newest
abbrev pub is_newer_by : (Place → Option InstanceId) → Header → Bool
is_newer_by newest header = not (is_at_max_age header) && is_over_some (newest header.place) header.instance

-- the LSA of a header that is newer than the newest
abbrev pub newer_by : (Place → Option InstanceId) → Header → Option Place
newer_by newest header = if is_newer_by newest header then Some header.place else None

abbrev pub all_newer : {A : Type 0} → (Place → Option InstanceId) → List (ParsedFile A) → List Place
all_newer newest files = flat_map (λ file. filter_map (newer_by newest) file.headers.items) files
