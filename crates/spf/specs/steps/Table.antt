-- Distances of vertices, and of the candidates that wait, as numbers of 32 bits.
use Rattle.std.specs.Prelude.{◌≡◌, ℕ, ◌+◌, ◌<◌, ◌^◌, cond, nat_lt, List, Option, None, Some, map, slice_index_or}
use Rattle.spf.specs.declared.queue.Candidate.{Candidate}
use Rattle.spf.specs.steps.Search.{IsQueued}

-- the number of a vertex that is not reached
abbrev pub unreached : ℕ
unreached = 4294967295

-- the distance that a number stands for, if its vertex is settled
abbrev pub distance_in : ℕ → Option ℕ
distance_in n = cond (nat_lt n 2147483648) (Some n) None

-- the distances of the vertices that are settled
abbrev pub settled_in : List ℕ → List (Option ℕ)
settled_in numbers = map (λ n. distance_in n) numbers

-- where a vertex has a distance and 2^31, a candidate to it waits that is no farther
abbrev pub AreWaiting : List ℕ → List Candidate → Type 0
AreWaiting numbers queue = (i d : ℕ) → d + 1 < 2 ^ 31 → slice_index_or numbers i unreached ≡ d + 2 ^ 31 → IsQueued queue i d
