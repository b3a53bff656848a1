-- What is known where a line is refused.
use Rattle.std.specs.Prelude.{ℕ, ◌==◌, ◌||◌, Bool, List}
use Rattle.std.specs.List.{list_any}
use Rattle.lsa_codec.specs.declared.address.RouterId.{RouterId}
use Rattle.lsdb.specs.Lists.{Lists}
use Rattle.routing_table.specs.Routers.{attached_routers}

-- the database of the branch, the baseline, and the number of edits that are done and undone
pub record SituationValue : Type 0 where
  pub database : Lists
  pub baseline : Lists
  pub done : ℕ
  pub undone : ℕ

abbrev pub is_among : List RouterId → RouterId → Bool
is_among routers router = list_any (λ other. other.0 == router.0) routers

-- attached now
abbrev pub is_attached : SituationValue → RouterId → Bool
is_attached s router = is_among (attached_routers s.database) router

-- attached in the baseline
abbrev pub was_attached : SituationValue → RouterId → Bool
was_attached s router = is_among (attached_routers s.baseline) router

-- attached in one of both
abbrev pub is_known : SituationValue → RouterId → Bool
is_known s router = is_attached s router || was_attached s router
