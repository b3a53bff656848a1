-- Edges of a row that get another cost.
use Rattle.std.specs.Prelude.{ℕ, Bool, ◌==◌, ◌&&◌, if◌then◌else◌}
use Rattle.lsa_codec.specs.declared.address.Addr.{Addr}
use Rattle.area_graph.specs.declared.edge.Edge.{Edge}

-- whether an edge leads to the vertex with a number, and carries this Link Data
abbrev pub leads_to : ℕ → Addr → Edge → Bool
leads_to to link_data e = (e.to == to) && (e.link_data.0 == link_data.0)

-- an edge with another cost, if it leads there and carries this Link Data
abbrev pub with_cost : ℕ → Addr → ℕ → Edge → Edge
with_cost to link_data cost e = record { to = e.to; cost = if leads_to to link_data e then cost else e.cost; link_data = e.link_data }
