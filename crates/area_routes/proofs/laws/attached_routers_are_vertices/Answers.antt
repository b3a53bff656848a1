use Rattle.area_routes.proofs.VertexLemmas.{attached_vertex}
use Rattle.area_routes.proofs.laws.attached_routers_are_vertices.Goals as goal

pub returns : goal.returns
returns c = attached_vertex
