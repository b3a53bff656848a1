-- Instances of LSAs that their originators have forgotten (RFC 2328, 12.1.6 and 13.4).
use Rattle.std.specs.Prelude.{Bool, not, ◌&&◌, List}
use Rattle.std.specs.List.{filter, list_any}
use Rattle.std.specs.Ordering.{is_eq, is_lt}
use Rattle.lsa_instances.specs.declared.observation.Observation.{Observation}
use Rattle.lsa_instances.specs.Instance.{instance_id_cmp, instance_id_of}
use Rattle.lsa_instances.specs.Newest.{began_after}
use Rattle.lsa_instances.specs.Order.{place_cmp, place_of}

module _ {A : Type 0} where
  -- an observation is of an older instance of the same LSA, by LS sequence number and then by checksum
  abbrev pub is_older : Observation A → Observation A → Bool
  is_older y x =
      is_eq (place_cmp (place_of y) (place_of x)) && is_lt (instance_id_cmp (instance_id_of y.lsa) (instance_id_of x.lsa))

  -- a copy shows that an observation is forgotten: it is of an older instance, and began after the observation was seen. Its
  -- originator knew of no newer instance then, as after a restart, or that one had passed MaxAge: else it would have taken a
  -- greater sequence number (12.1.6, 13.4)
  abbrev pub forgets : Observation A → Observation A → Bool
  forgets y x = is_older y x && began_after x.seen y

  abbrev pub is_forgotten : List (Observation A) → Observation A → Bool
  is_forgotten reported x = list_any (λ y. forgets y x) reported

  -- the observations that are not forgotten, in their order
  abbrev pub remembered : List (Observation A) → List (Observation A)
  remembered reported = filter (λ x. not (is_forgotten reported x)) reported
