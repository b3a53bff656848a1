-- The best of the networks of each prefix.
use Rattle.std.specs.Prelude.{◌≡◌, Bool, false, ◌&&◌, ◌||◌, ◌==◌, not, nat_lt, if◌then◌else◌, List, [], ◌∷◌, Option, None, Some}
use Rattle.std.specs.List.{list_any}
use Rattle.std.specs.BTreeMap.{BTreeMap, get}
use Rattle.std.specs.Ordering.{eq_by_cmp}
use Rattle.lsa_codec.specs.Fields.{link_state_id_of}
use Rattle.lsa_codec.specs.Prefix.{Net}
use Rattle.lsa_codec.specs.Views.{net_of_lsa}
use Rattle.area_graph.specs.Area.{is_network_lsa}
use Rattle.area_routes.specs.declared.networks.Standing.{Standing}
use Rattle.lsa_codec.specs.Order.{prefix_cmp}
use Rattle.area_routes.specs.Values.{OfferValue}
use Rattle.area_routes.specs.Reached.{ReachedValue}
use Rattle.area_routes.specs.Networks.{beats, network_offer}

-- the distance and the Link State ID of a network
abbrev pub standing_of : ReachedValue → Standing
standing_of r = record { distance = r.distance; id = record { 0 = link_state_id_of r.lsa } }

abbrev pub stands_before : Standing → Standing → Bool
stands_before a b = nat_lt a.distance b.distance || ((a.distance == b.distance) && nat_lt b.id.0 a.id.0)

-- whether the best standing is before this one
abbrev pub is_after : Option Standing → Standing → Bool
is_after None standing = false
is_after (Some best) standing = stands_before best standing

-- whether one of these networks has the prefix and is better
abbrev pub any_before : List ReachedValue → Net → Standing → Bool
any_before ns net standing = list_any (λ m. eq_by_cmp prefix_cmp (net_of_lsa m.lsa) net && stands_before (standing_of m) standing) ns

-- these are the best standings of the networks
abbrev pub AreStandingsOf : List ReachedValue → BTreeMap Net Standing → Type 0
AreStandingsOf ns standings = (net : Net) (standing : Standing) → any_before ns net standing ≡ is_after (get prefix_cmp standings net) standing

-- the offer of a vertex, if it is a network that none of these beats
abbrev pub unbeaten : List ReachedValue → ReachedValue → List OfferValue
unbeaten ns r = if is_network_lsa r.lsa && not (list_any (λ m. beats m r) ns) then network_offer r ∷ [] else []
