-- The candidates within an area: networks of a prefix, and stub links (RFC 2328, 16.1).
use Rattle.std.specs.Prelude.{ℕ, ◌+◌, ◌==◌, ◌&&◌, ◌||◌, not, nat_lt, Bool, if◌then◌else◌, List, ◌++◌, Option, None, Some, map}
use Rattle.std.specs.List.{enumerate_from, filter_map, flat_map, list_any}
use Rattle.std.specs.Option.{option_map}
use Rattle.lsa_codec.specs.declared.link.Link.{Link}
use Rattle.lsa_codec.specs.Fields.{link_state_id_of}
use Rattle.lsa_codec.specs.Links.{stub_net}
use Rattle.lsa_codec.specs.LsTypes.{network_lsa, router_lsa}
use Rattle.lsa_codec.specs.Prefix.{Net}
use Rattle.area_graph.specs.Area.{is_live, is_outranked_by, vertex_of}
use Rattle.area_graph.specs.AreaEdges.{router_links}
use Rattle.best_ways.specs.declared.rank.PathType.TheVariants.{Intra}
use Rattle.lsa_names.specs.LsaNames.{lsa_name}
use Rattle.area_candidates.specs.declared.draft.Draft.{Draft}
use Rattle.area_candidates.specs.declared.draft.Judged.{Judged}
use Rattle.area_candidates.specs.declared.networks.NearNetwork.{NearNetwork}
use Rattle.area_candidates.specs.declared.rule.Rule.TheVariants as rule
use Rattle.area_candidates.specs.Drafts.{costing, left, out, out_at}
use Rattle.area_candidates.specs.InOrder.{FoundValue, is_prefix, lsas_in_order}
use Rattle.area_candidates.specs.Views.{AreaViewValue, distance_in, lsas_in}

-- ---- networks

-- a live network-LSA of the same Link State ID has a greater Advertising Router, so that this one is not in use
abbrev pub is_outranked : List (List ℕ) → List ℕ → Bool
is_outranked lsas lsa = list_any (λ other. is_live other && is_outranked_by lsa other) lsas

-- a network that is reached, by a network-LSA in use: its distance and its Link State ID
abbrev pub near_network : AreaViewValue → FoundValue → Option NearNetwork
near_network view found =
    if is_live found.lsa && not (is_outranked (lsas_in view) found.lsa)
    then option_map (λ d. record { distance = d; id = link_state_id_of found.lsa }) (distance_in view (vertex_of found.lsa))
    else None

abbrev pub near_networks : AreaViewValue → List FoundValue → List NearNetwork
near_networks view found = filter_map (near_network view) found

-- it is nearer, or as near with a greater Link State ID
abbrev pub is_before : NearNetwork → NearNetwork → Bool
is_before m n = nat_lt m.distance n.distance || ((m.distance == n.distance) && nat_lt n.id m.id)

-- a network at a distance, beside those that are near
abbrev pub judged_network_at : List NearNetwork → ℕ → Option ℕ → Judged
judged_network_at near id None = out rule.VertexNotReached
judged_network_at near id (Some d) =
    if list_any (λ m. is_before m (record { distance = d; id = id })) near then out_at d rule.AnotherNetwork else left d (costing Intra d)

-- a network-LSA: it is in use where it is live and no other outranks it, and of the networks of a prefix the nearest is used
abbrev pub judged_network : AreaViewValue → List NearNetwork → List ℕ → Judged
judged_network view near lsa =
    if not (is_live lsa) then out rule.VertexMaxAge else
    if is_outranked (lsas_in view) lsa then out rule.AnotherLsa else
    judged_network_at near (link_state_id_of lsa) (distance_in view (vertex_of lsa))

abbrev pub network_draft : AreaViewValue → List NearNetwork → FoundValue → Draft
network_draft view near found = record {
  lsa = lsa_name found.area found.lsa;
  link = None;
  metric = 0;
  judged = judged_network view near found.lsa;
}

-- the networks of a prefix, where these are its network-LSAs
abbrev pub drafts_of_networks : AreaViewValue → List FoundValue → List Draft
drafts_of_networks view found = map (network_draft view (near_networks view found)) found

abbrev pub network_drafts : AreaViewValue → Net → List Draft
network_drafts view net = drafts_of_networks view (lsas_in_order view.db (Some view.area) network_lsa net)

-- ---- stub links

-- a stub link of a router at a distance
abbrev pub judged_stub_at : ℕ → Option ℕ → Judged
judged_stub_at metric None = out rule.VertexNotReached
judged_stub_at metric (Some d) = left d (costing Intra (d + metric))

abbrev pub judged_stub : AreaViewValue → List ℕ → ℕ → Judged
judged_stub view lsa metric = if is_live lsa then judged_stub_at metric (distance_in view (vertex_of lsa)) else out rule.VertexMaxAge

-- a link of a router-LSA with its number, if it is a stub link with the prefix
abbrev pub stub_draft : AreaViewValue → Net → FoundValue → ℕ × Link → Option Draft
stub_draft view net found numbered =
    if is_prefix net (stub_net numbered.1) then
    Some (record {
      lsa = lsa_name found.area found.lsa;
      link = Some numbered.0;
      metric = numbered.1.metric;
      judged = judged_stub view found.lsa numbered.1.metric;
    })
    else None

abbrev pub stub_drafts_of : AreaViewValue → Net → FoundValue → List Draft
stub_drafts_of view net found = filter_map (stub_draft view net found) (enumerate_from 1 (router_links found.lsa))

-- the stub links with the prefix, by router and number
abbrev pub stub_drafts : AreaViewValue → Net → List Draft
stub_drafts view net = flat_map (stub_drafts_of view net) (lsas_in_order view.db (Some view.area) router_lsa net)

-- ---- both, area by area

abbrev pub drafts_within : Net → AreaViewValue → List Draft
drafts_within net view = network_drafts view net ++ stub_drafts view net

abbrev pub intra_drafts : List AreaViewValue → Net → List Draft
intra_drafts views net = flat_map (drafts_within net) views
