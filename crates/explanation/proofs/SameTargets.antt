-- Steps and LSAs on paths to some targets are on paths to more of them.
use Rattle.std.proofs.Common.{◌≡◌, List, ◌⊎◌, inl, inr}
use Rattle.std.specs.Prelude.{◌↔◌}
use Rattle.std.specs.List.{Contains}
use Rattle.lsa_codec.specs.declared.address.AreaId.{AreaId}
use Rattle.area_graph.specs.declared.vertex.Vertex.{Vertex}
use Rattle.area_graph.specs.declared.vertex.Vertex.TheVariants.{Network}
use Rattle.area_graph.specs.Paths.{DirectedEdge}
use Rattle.route_candidates.specs.declared.target.Target.{Target}
use Rattle.area_candidates.specs.Views.{AreaViewValue}
use Rattle.explanation.specs.WaySteps.{AreTargetsIn, IsOnPaths, IsOnWay, IsOverLink, IsOverNetwork, IsStep, IsToNetwork}
use Rattle.explanation.specs.declared.rest.Rest.{Rest}
use Rattle.explanation.specs.declared.way_step.WayStep.{WayStep}
use Rattle.explanation.specs.steps.Resting.{IsVertexRestBy}

module _ (view : AreaViewValue) (ts us : List Vertex) (more : (v : Vertex) → Contains ts v → Contains us v) where
  on_way : (e : DirectedEdge Vertex) → IsOnWay view ts e → IsOnWay view us e
  on_way e h = record { target = h.target; is_target = more h.target h.is_target; es = h.es; least = h.least; on = h.on }

  pub step_on : (step : WayStep) → IsStep view ts step → IsStep view us step
  step_on step s = record { area = s.area; start = s.start; sum = s.sum; by = by s.by }
    where
      by : IsOverLink view ts step ⊎ (IsToNetwork view ts step ⊎ IsOverNetwork view ts step)
          → IsOverLink view us step ⊎ (IsToNetwork view us step ⊎ IsOverNetwork view us step)
      by (inl o) = inl (record { router = o.router; no_network = o.no_network; edge = on_way _ o.edge })
      by (inr (inl t)) =
          inr (inl (record {
            network = t.network;
            none_between = t.none_between;
            target = more (Network step.end) t.target;
            edge = on_way _ t.edge;
          }))
      by (inr (inr b)) =
          inr (inr (record {
            router = b.router;
            between = b.between;
            is_between = b.is_between;
            edge = on_way _ b.edge;
            back = b.back;
            on = on_way _ b.on;
          }))

  on_paths : (v : Vertex) → IsOnPaths view ts v → IsOnPaths view us v
  on_paths v (inl t) = inl (more v t)
  on_paths v (inr (inl (target, there, is))) = inr (inl (target, more target there, is))
  on_paths v (inr (inr (e, way, end))) = inr (inr (e, on_way e way, end))

  pub rest_on : (rest : Rest) → IsVertexRestBy view ts rest → IsVertexRestBy view us rest
  rest_on rest (name, (v, lsa, on, of, called), is) = (name, (v, lsa, on_paths v on, of, called), is)

-- two lists of the targets of an area have the same members
pub same_targets : (targets : List Target) (area : AreaId) (ts us : List Vertex) → AreTargetsIn targets area ts → AreTargetsIn targets area us
    → (v : Vertex) → Contains ts v → Contains us v
same_targets targets area ts us one two v there = (two v).1 ((one v).0 there)
