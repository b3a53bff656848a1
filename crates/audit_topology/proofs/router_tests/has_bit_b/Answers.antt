use Rattle.std.proofs.Common.{◌∙◌, false, List, ℕ, Option, ap}
use Rattle.std.specs.Option.{option_map_or}
use Rattle.area_routes.specs.Entries.{bit_b, flags_of, has_bit}
use Rattle.audit_topology.proofs.router_tests.has_bit_b.Goals as goal

pub returns-in-Some : goal.returns-in-Some
returns-in-Some g c =
    c.has_flag_b.ensures ∙ ap (λ (o : Option (List ℕ)). option_map_or (λ lsa. has_bit bit_b (flags_of lsa)) o false) c.in-Some.ensures

pub returns-in-None : goal.returns-in-None
returns-in-None g c = ap (λ (o : Option (List ℕ)). option_map_or (λ lsa. has_bit bit_b (flags_of lsa)) o false) c.in-None.ensures
