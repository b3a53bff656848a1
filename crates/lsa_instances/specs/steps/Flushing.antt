-- What is kept of flushes while the observations are looked through.
use Rattle.std.specs.Prelude.{ℕ, ◌-◌, Bool, false, not, ◌&&◌, ◌||◌, List, [], ◌∷◌, ◌++◌, length, slice_get, take, Option, None, Some, max, if◌then◌else◌}
use Rattle.std.specs.Ordering.{is_eq}
use Rattle.lsa_codec.specs.Key.{is_at_max_age}
use Rattle.lsa_instances.specs.declared.flush.Flush.{Flush}
use Rattle.lsa_instances.specs.declared.keeping.FlushedLsas.{FlushedLsas}
use Rattle.lsa_instances.specs.declared.keeping.FlushedLsas.TheVariants.{Kept, LeftOut}
use Rattle.lsa_instances.specs.declared.observation.Observation.{Observation}
use Rattle.lsa_instances.specs.Order.{place_cmp, place_of}
use Rattle.lsa_instances.specs.Newest.{began_after}

-- the later of two moments, or none where one of them is not known
abbrev pub latest : Option ℕ → Option ℕ → Option ℕ
latest None b = None
latest (Some a) None = None
latest (Some a) (Some b) = Some (max a b)

-- whether an observation is of the LSA that was flushed, and began no later
abbrev pub is_stopped : {A : Type 0} → Option Flush → Observation A → Bool
is_stopped None x = false
is_stopped (Some f) x = is_eq (place_cmp f.place (place_of x)) && not (began_after f.last x)

-- the last moment of the flush of the LSA of x, with x at MaxAge
abbrev pub last_with : {A : Type 0} → Option Flush → Observation A → Option ℕ
last_with None x = x.seen
last_with (Some f) x = if is_eq (place_cmp f.place (place_of x)) then latest f.last x.seen else x.seen

abbrev pub flush_after : {A : Type 0} → Option Flush → Observation A → Flush
flush_after flush x = record { place = place_of x; last = last_with flush x }

-- whether this is an observation of the same LSA
abbrev pub is_of : {A : Type 0} → Option (Observation A) → Observation A → Bool
is_of None x = false
is_of (Some last) x = is_eq (place_cmp (place_of last) (place_of x))

abbrev pub is_last : {A : Type 0} → List (Observation A) → Observation A → Bool
is_last newest x = is_of (slice_get newest (length newest - 1)) x

-- whether this is the flush of the same LSA
abbrev pub is_flush_of : {A : Type 0} → Option (Observation A) → Observation A → Bool
is_flush_of None x = false
is_flush_of (Some last) x = is_at_max_age last.lsa && is_eq (place_cmp (place_of last) (place_of x))

abbrev pub is_last_flush : {A : Type 0} → List (Observation A) → Observation A → Bool
is_last_flush newest x = is_flush_of (slice_get newest (length newest - 1)) x

-- the newest so far, without the flush of the LSA of x
abbrev pub without_flush : {A : Type 0} → List (Observation A) → Observation A → List (Observation A)
without_flush newest x = if is_last_flush newest x then take (length newest - 1) newest else newest

-- the newest so far, and x where none of them is of its LSA
abbrev pub with_first : {A : Type 0} → List (Observation A) → Observation A → List (Observation A)
with_first newest x = if is_last newest x then newest else newest ++ x ∷ []

-- whether x is flushed, by itself or by an observation before it
abbrev pub is_flushed_so_far : {A : Type 0} → Option Flush → Observation A → Bool
is_flushed_so_far flush x = is_at_max_age x.lsa || is_stopped flush x

-- the newest so far and x, which was flushed
abbrev pub with_flushed : {A : Type 0} → FlushedLsas → List (Observation A) → Observation A → List (Observation A)
with_flushed LeftOut newest x = newest
with_flushed Kept newest x = with_first newest x

-- the newest after one more observation
abbrev pub newest_after : {A : Type 0} → FlushedLsas → Option Flush → List (Observation A) → Observation A → List (Observation A)
newest_after flushed flush newest x =
    if is_flushed_so_far flush x then with_flushed flushed newest x else with_first (without_flush newest x) x

-- the flush that is kept after one more observation
abbrev pub flush_so_far : {A : Type 0} → Option Flush → Observation A → Option Flush
flush_so_far flush x = if is_at_max_age x.lsa then Some (flush_after flush x) else flush
