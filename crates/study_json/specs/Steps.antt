-- The JSON of what routers do with a packet, as `path` answers it.
use Rattle.std.specs.Prelude.{[], ◌∷◌, Option, None, Some, codes}
use Rattle.json.specs.Json.{Json, string}
use Rattle.lsa_codec.specs.declared.address.Addr.{Addr}
use Rattle.lsa_codec.specs.Prefix.{Net}
use Rattle.route_lines.specs.declared.own_source.OwnSource.{OwnSource}
use Rattle.route_lines.specs.declared.path_end.PathEnd.{PathEnd}
use Rattle.route_lines.specs.declared.path_step.PathStep.{PathStep}
use Rattle.route_lines.specs.declared.path_step.StepTarget.{StepTarget}
use Rattle.route_lines.specs.declared.path_step.StepTarget.TheVariants.{To, Delivered, External}
use Rattle.route_lines.specs.declared.path_step.StepWay.{StepWay}
use Rattle.route_lines.specs.declared.route_source.RouteSource.{RouteSource}
use Rattle.route_lines.specs.PathTexts.{end_text}
use Rattle.route_lines.specs.RouteLines.{external_kind}
use Rattle.study_json.specs.Fields.{Fields, object_of}
use Rattle.study_json.specs.Leaves.{address_json, kind_json, number_json, option_json, prefix_json, router_json}
use Rattle.study_json.specs.Routes.{metric_of}

abbrev pub end_json : PathEnd → Json
end_json end = string (end_text end)

-- kind and metric of an AS-external-LSA of the router itself
abbrev pub own_fields : OwnSource → Fields
own_fields own =
    (codes "kind", string (codes "own")) ∷ (codes "metric", number_json own.metric)
    ∷ (codes "external", kind_json (external_kind own.is_type2)) ∷ []

-- kind, cost and metric of the route of a step, by the router's own AS-external-LSA, if it is one
abbrev pub taken_by : RouteSource → Option OwnSource → Fields
taken_by source None =
    (codes "kind", kind_json source.kind) ∷ (codes "cost", number_json source.cost)
    ∷ (codes "metric", option_json number_json (metric_of source.kind source.metric)) ∷ []
taken_by source (Some own) = own_fields own

-- the route of a step
abbrev pub taken_json : Net → RouteSource → Json
taken_json net source = object_of ((codes "prefix", prefix_json net) ∷ taken_by source source.own)

-- where a way leads, out of this interface
abbrev pub leading_fields : Option Addr → StepTarget → Fields
leading_fields out (To router cost) =
    (codes "to", router_json router) ∷ (codes "out", option_json address_json out) ∷ (codes "cost", number_json cost) ∷ []
leading_fields out Delivered = (codes "end", string (codes "delivered")) ∷ (codes "out", option_json address_json out) ∷ []
leading_fields out (External address) =
    (codes "end", string (codes "external")) ∷ (codes "out", option_json address_json out)
    ∷ (codes "address", option_json address_json address) ∷ []

-- what a router does by one of its ways, or that it drops the packet
abbrev pub step_rest : Option StepWay → Fields
step_rest None = (codes "end", string (codes "blackhole")) ∷ []
step_rest (Some way) = (codes "route", taken_json way.net way.source) ∷ leading_fields way.out way.target

abbrev pub step_json : PathStep → Json
step_json step = object_of ((codes "router", router_json step.router) ∷ step_rest step.way)
