-- What is kept of observations while they are looked through, by place, and the oldest instance of each LSA first.
use Rattle.std.specs.Prelude.{ℕ, ◌-◌, ◌*◌, Bool, true, false, nat_lt, max, Option, None, Some, if◌then◌else◌}
use Rattle.std.specs.Ordering.{is_eq, ordering_then}
use Rattle.std.specs.declared.cmp.Ordering.{Ordering}
use Rattle.forgotten_instances.specs.declared.past.Past.{Past}
use Rattle.lsa_codec.specs.Fields.{age_of}
use Rattle.lsa_instances.specs.declared.observation.Observation.{Observation}
use Rattle.lsa_instances.specs.Instance.{instance_id_cmp, instance_id_of}
use Rattle.lsa_instances.specs.Newest.{second}
use Rattle.lsa_instances.specs.Order.{place_cmp, place_of}

-- ---- moments

-- when a copy of this age began that was seen then, where that is known
abbrev pub began_of : Option ℕ → ℕ → Option ℕ
began_of None age = None
began_of (Some seen) age = Some (seen - age * second)

abbrev pub began : {A : Type 0} → Observation A → Option ℕ
began x = began_of x.seen (age_of x.lsa)

-- the later of two moments, of those that are known
abbrev pub later : Option ℕ → Option ℕ → Option ℕ
later None b = b
later (Some a) None = Some a
later (Some a) (Some b) = Some (max a b)

-- whether a moment is known to be before another
abbrev pub is_before : Option ℕ → Option ℕ → Bool
is_before None last = false
is_before (Some moment) None = false
is_before (Some moment) (Some last) = nat_lt moment last

-- ---- the order

abbrev pub age_cmp : {A : Type 0} → Observation A → Observation A → Ordering
age_cmp a b = ordering_then (place_cmp (place_of a) (place_of b)) (instance_id_cmp (instance_id_of a.lsa) (instance_id_of b.lsa))

-- ---- what was looked at

module _ {A : Type 0} where
  abbrev pub is_of : Past → Observation A → Bool
  is_of past x = is_eq (place_cmp past.place (place_of x))

  -- the last moment at which a copy of an instance of the LSA of x began that is older than x
  abbrev pub older_than : Option Past → Observation A → Option ℕ
  older_than None x = None
  older_than (Some past) x =
      if is_of past x then (if is_eq (instance_id_cmp past.instance (instance_id_of x.lsa)) then past.older else past.began) else None

  -- the same of all instances of that LSA
  abbrev pub last_of : Option Past → Observation A → Option ℕ
  last_of None x = None
  last_of (Some past) x = if is_of past x then past.began else None

  abbrev pub past_with : Option Past → Observation A → Past
  past_with past x = record {
    place = place_of x;
    instance = instance_id_of x.lsa;
    older = older_than past x;
    began = later (last_of past x) (began x);
  }

  abbrev pub is_forgotten_by : Option Past → Observation A → Bool
  is_forgotten_by past x = is_before x.seen (older_than past x)

  -- the first of a pair, where the second does not say that it is forgotten
  abbrev pub left_of : Observation A × Bool → Option (Observation A)
  left_of (x, true) = None
  left_of (x, false) = Some x
