-- Steps towards the findings about counts: the numbers of rows, in a map.
use Rattle.std.specs.Prelude.{◌≡◌, ℕ, ◌+◌, Bool, true, false, List, Option, Some, None}
use Rattle.std.specs.BTreeMap.{BTreeMap, get}
use Rattle.std.specs.Ordering.{nat_cmp}
use Rattle.findings.specs.declared.reported_lsa.ReportedLsa.{ReportedLsa}
use Rattle.snmp_walk.specs.Counts.{is_counted, number_among}

abbrev pub number_in : Option ℕ → ℕ
number_in None = 0
number_in (Some number) = number

-- the map has the number of rows that are counted so
abbrev pub AreNumbers : List ReportedLsa → BTreeMap ℕ ℕ → Type 0
AreNumbers rows numbers = (counted : ℕ) → number_in (get nat_cmp numbers counted) ≡ number_among rows counted

abbrev pub one_if : Bool → ℕ
one_if true = 1
one_if false = 0

-- a map has one more where the row is counted
abbrev pub AreMore : BTreeMap ℕ ℕ → ReportedLsa → BTreeMap ℕ ℕ → Type 0
AreMore old row new =
    (counted : ℕ) → number_in (get nat_cmp new counted) ≡ number_in (get nat_cmp old counted) + one_if (is_counted counted row)
