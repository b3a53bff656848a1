-- The texts of paths.
use Rattle.std.specs.Prelude.{ℕ, List, ◌++◌, map, Option, None, Some, codes, decimal}
use Rattle.lsa_codec.specs.declared.address.Addr.{Addr}
use Rattle.lsa_codec.specs.declared.address.RouterId.{RouterId}
use Rattle.lsa_codec.specs.Spelling.{prefix_text}
use Rattle.study_text.specs.Lists.{lines_of, listed}
use Rattle.study_text.specs.Shown.{Called, shown}
use Rattle.route_lines.specs.declared.path_end.PathEnd.{PathEnd}
use Rattle.route_lines.specs.declared.path_end.PathEnd.TheVariants.{Delivered, External, Blackhole, Loop}
use Rattle.route_lines.specs.declared.path_step.PathStep.{PathStep}
use Rattle.route_lines.specs.declared.path_step.StepTarget.{StepTarget}
use Rattle.route_lines.specs.declared.path_step.StepTarget.TheVariants as target
use Rattle.route_lines.specs.declared.path_step.StepWay.{StepWay}
use Rattle.route_lines.specs.PathLines.{PathValue}
use Rattle.route_lines.specs.RouteTexts.{address_after, out_text, source_text}

-- ---- a router

-- where a way leads, out of this interface
abbrev pub leading_text : Called → Option Addr → StepTarget → List ℕ
leading_text called out (target.To router cost) = codes " -> " ++ shown called router ++ out_text out ++ codes " cost " ++ decimal cost
leading_text called out target.Delivered = codes " delivered" ++ out_text out
leading_text called out (target.External address) = codes " external" ++ out_text out ++ address_after (codes " to ") address

-- a way, and the route that it is of, up to its metric
abbrev pub step_way_text : Called → StepWay → List ℕ
step_way_text called way =
    leading_text called way.out way.target ++ codes ", " ++ prefix_text way.net ++ codes " " ++ source_text way.source

-- what a router without a match does
abbrev pub step_by : Called → Option StepWay → List ℕ
step_by called None = codes " blackhole"
step_by called (Some way) = step_way_text called way

abbrev pub step_text : Called → PathStep → List ℕ
step_text called step = shown called step.router ++ step_by called step.way

-- ---- all routers

abbrev pub routers_text : Called → List RouterId → List ℕ
routers_text called routers = listed (map (shown called) routers)

abbrev pub loop_text : Called → List RouterId → List ℕ
loop_text called routers = codes "loop " ++ routers_text called routers

-- the lines of `path`
abbrev pub path_text : Called → PathValue → List ℕ
path_text called path = lines_of (step_text called) path.steps ++ lines_of (loop_text called) path.loops

-- ---- ends

abbrev pub end_text : PathEnd → List ℕ
end_text Delivered = codes "delivered"
end_text External = codes "external"
end_text Blackhole = codes "blackhole"
end_text Loop = codes "loop"

abbrev pub ends_text : List PathEnd → List ℕ
ends_text ends = listed (map end_text ends)

-- the ends, and the routers that walks reach
abbrev pub through_text : Called → PathValue → List ℕ
through_text called path = ends_text path.ends ++ codes " through " ++ routers_text called path.routers
