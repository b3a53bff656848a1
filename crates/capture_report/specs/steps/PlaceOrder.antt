-- The order that sets and maps keep places in.
use Rattle.std.specs.declared.cmp.Ordering.{Ordering}
use Rattle.lsa_instances.specs.contracts.place.PlaceOrd.TheImpl as derived
use Rattle.lsa_instances.specs.declared.place.Place.{Place}

-- as `Place` derives it
abbrev pub derived_cmp : Place → Place → Ordering
derived_cmp = derived.cmp-value.it
