-- The order in which observations are looked through.
use Rattle.std.specs.Ordering.{ordering_then}
use Rattle.std.specs.declared.cmp.Ordering.{Ordering}
use Rattle.lsa_instances.specs.declared.observation.Observation.{Observation}
use Rattle.lsa_instances.specs.Instance.{instance_cmp}
use Rattle.lsa_instances.specs.Order.{place_cmp, place_of}

-- by place, and the newest instance of each LSA first
abbrev pub observation_cmp : {A : Type 0} → Observation A → Observation A → Ordering
observation_cmp a b = ordering_then (place_cmp (place_of a) (place_of b)) (instance_cmp b.lsa a.lsa)
