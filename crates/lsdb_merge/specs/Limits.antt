-- Why observations and areas make no database.
use Rattle.std.specs.Prelude.{Bool, List, length, ◌+◌, nat_lt, not, Option, None, Some, if◌then◌else◌}
use Rattle.std.specs.List.{list_any}
use Rattle.lsa_codec.specs.Key.{key_of}
use Rattle.lsa_instances.specs.declared.observation.Observation.{Observation}
use Rattle.lsdb.specs.Limits.{most_areas, longest_dump}
use Rattle.lsdb.specs.Lists.{SectionLsas, Lists, is_in_scope, limit_of, size}
use Rattle.lsdb_merge.specs.declared.fault.JoinFault.{JoinFault}
use Rattle.lsdb_merge.specs.declared.fault.JoinFault.TheVariants.{MisplacedLsa, TooManyAreas, TooManyLsas, TooLong}
use Rattle.lsdb_merge.specs.Joining.{head}
use Rattle.std.specs.Prelude.{[]}

-- an LSA of AS scope that is reported in an area, or one of another type that is reported outside of all areas
abbrev pub is_misplaced : {A : Type 0} → Observation A → Bool
is_misplaced x = not (is_in_scope (head [] x.scope) (key_of x.lsa))

-- more LSAs than such a section may have
abbrev pub is_overfull : SectionLsas → Bool
is_overfull section = nat_lt (limit_of section.area) (length section.lsas)

-- the first of the faults in this order: an LSA in a wrong scope, too many areas, too many LSAs in a section, too long
-- a dump
abbrev pub fault_of : {A : Type 0} → List (Observation A) → Lists → Option JoinFault
fault_of newest db =
    if list_any is_misplaced newest then Some MisplacedLsa else
    if nat_lt (most_areas + 1) (length db) then Some TooManyAreas else
    if list_any is_overfull db then Some TooManyLsas else
    if nat_lt longest_dump (size db) then Some TooLong else None
