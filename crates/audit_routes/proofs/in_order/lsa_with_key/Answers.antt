use Rattle.std.proofs.Common.{◌≡◌, ◌∙◌, ℕ, Bor, List, Option, Some, None, sym, ap}
use Rattle.std.specs.Prelude.{MatchOption, option_map}
use Rattle.lsdb.specs.Slots.{Slot, lsa_or_none}
use Rattle.audit_routes.proofs.in_order.lsa_with_key.Goals as goal

-- what a slot holds is what was found
held_is : (at : Option Slot) (found : Option (List ℕ)) (got : Option (Bor (List ℕ))) → at ≡ Some found
    → MatchOption got (lsa_or_none at ≡ None) (λ lsa. at ≡ Some (Some lsa.now)) → option_map (λ lsa. lsa.now) got ≡ found
held_is at found None held none = sym none ∙ ap lsa_or_none held
held_is at found (Some lsa) held here = let both : Some found ≡ Some (Some lsa.now) = sym held ∙ here in cc

pub returns : goal.returns
returns g c = held_is _ _ c.get.result c.in_ok-slot.ensures.held c.get.ensures
