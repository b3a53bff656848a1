use Rattle.std.proofs.Common.{◌≡◌, List, None}
use Rattle.lsa_codec.specs.declared.address.RouterId.{RouterId}
use Rattle.microloops.specs.steps.Groups.{work}
use Rattle.microloops.specs.steps.Searching.{IsSearch}
use Rattle.microloops.proofs.search.Search.next_router.Given as goal

abbrev pub invariant-path : goal.invariant-path
invariant-path g l = record {
  search : (next : RouterId → List RouterId) → IsSearch next None l.initial.self → IsSearch next None l.self;
  unseen : l.self.unseen ≡ l.initial.self.unseen;
}

-- the groups and the steps that were not followed
abbrev pub decreases-path : goal.decreases-path
decreases-path g l = work l.self.path
