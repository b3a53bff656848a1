-- What a router announces for an external prefix of its own (RFC 2328, 16.4 (2)).
use Rattle.std.specs.Prelude.{ℕ, Bool, ◌&&◌, if◌then◌else◌, List, Option, None, Some}
use Rattle.std.specs.List.{filter_map}
use Rattle.std.specs.Ordering.{eq_by_cmp, nat_cmp, ordering_then}
use Rattle.std.specs.declared.cmp.Ordering.{Ordering}
use Rattle.lsa_codec.specs.Fields.{link_state_id_of}
use Rattle.lsa_codec.specs.Order.{prefix_cmp}
use Rattle.lsa_codec.specs.Prefix.{Net}
use Rattle.lsa_codec.specs.Views.{forward_of, is_type2_of, metric_of, net_of_lsa}
use Rattle.lsa_codec.specs.declared.address.RouterId.{RouterId}
use Rattle.lsdb.specs.declared.section.Section.TheVariants.{AsWide}
use Rattle.lsdb.specs.Lists.{Lists, lsas_of}
use Rattle.area_graph.specs.Least.{least}
use Rattle.area_routes.specs.Inter.{originator_of, same_router}
use Rattle.external_routes.specs.ExternalLsas.{is_in_use}
use Rattle.router_entries.specs.declared.own_external.OwnExternal.{OwnExternal}

-- what an AS-external-LSA announces
abbrev pub announced_by : List ℕ → OwnExternal
announced_by lsa = record {
  is_type2 = is_type2_of lsa;
  metric = metric_of lsa;
  id = record { 0 = link_state_id_of lsa };
  forward = record { 0 = forward_of lsa };
}

-- the same, if it is for this prefix
abbrev pub announced_for : Net → List ℕ → Option OwnExternal
announced_for net lsa = if eq_by_cmp prefix_cmp net (net_of_lsa lsa) then Some (announced_by lsa) else None

-- the same, if the LSA is one of the router that is in use: it is live, and its metric is below LSInfinity
abbrev pub own_by : RouterId → Net → List ℕ → Option OwnExternal
own_by router net lsa = if same_router (originator_of lsa) router && is_in_use lsa then announced_for net lsa else None

-- the type of a metric, 1 or 2
abbrev pub type_of : OwnExternal → ℕ
type_of own = if own.is_type2 then 2 else 1

-- type 1 comes before type 2, then the least metric, then the least Link State ID
abbrev pub own_cmp : OwnExternal → OwnExternal → Ordering
own_cmp a b = ordering_then (nat_cmp (type_of a) (type_of b)) (ordering_then (nat_cmp a.metric b.metric) (nat_cmp a.id.0 b.id.0))

-- what a router announces for an external prefix of its own: the first of its LSAs for it
abbrev pub own_external : Lists → RouterId → Net → Option OwnExternal
own_external db router net = least own_cmp (filter_map (own_by router net) (lsas_of AsWide db))
