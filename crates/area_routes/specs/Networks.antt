-- The networks that an area offers (RFC 2328, 16.1).
use Rattle.std.specs.Prelude.{Bool, ◌&&◌, ◌||◌, ◌==◌, not, nat_lt, List, filter, map}
use Rattle.std.specs.List.{list_any}
use Rattle.std.specs.Ordering.{eq_by_cmp}
use Rattle.lsa_codec.specs.Fields.{link_state_id_of}
use Rattle.lsa_codec.specs.Views.{net_of_lsa}
use Rattle.area_graph.specs.Area.{is_network_lsa}
use Rattle.lsa_codec.specs.Order.{prefix_cmp}
use Rattle.area_routes.specs.Values.{OfferValue}
use Rattle.area_routes.specs.Reached.{ReachedValue}

-- the transit networks that are reached
abbrev pub networks : List ReachedValue → List ReachedValue
networks rs = filter (λ r. is_network_lsa r.lsa) rs

-- a nearer network, or one as near with a greater Link State ID
abbrev pub precedes : ReachedValue → ReachedValue → Bool
precedes m n = nat_lt m.distance n.distance || ((m.distance == n.distance) && nat_lt (link_state_id_of n.lsa) (link_state_id_of m.lsa))

-- one of the same prefix that precedes the other
abbrev pub beats : ReachedValue → ReachedValue → Bool
beats m n = eq_by_cmp prefix_cmp (net_of_lsa m.lsa) (net_of_lsa n.lsa) && precedes m n

-- of all networks of one prefix, the one that no other beats: it has the least distance, and then the greatest Link State
-- ID
abbrev pub chosen : List ReachedValue → List ReachedValue
chosen ns = filter (λ n. not (list_any (λ m. beats m n) ns)) ns

-- a network at its distance, with its next hops
abbrev pub network_offer : ReachedValue → OfferValue
network_offer r = record { net = net_of_lsa r.lsa; cost = r.distance; hops = r.hops }

-- what the networks offer
abbrev pub network_offers : List ReachedValue → List OfferValue
network_offers rs = map network_offer (chosen (networks rs))
