-- The JSON of loops and blackholes, as `loops` and `microloops` answer it.
use Rattle.std.specs.Prelude.{[], ◌∷◌, codes}
use Rattle.json.specs.Json.{Json}
use Rattle.loop_report.specs.Blackholes.{BlackholeValue}
use Rattle.loop_report.specs.Loops.{LoopValue}
use Rattle.study_json.specs.Fields.{object_of}
use Rattle.study_json.specs.Leaves.{array_json, prefix_json, router_json}

abbrev pub loop_json : LoopValue → Json
loop_json v = object_of ((codes "prefix", prefix_json v.net) ∷ (codes "routers", array_json router_json v.routers) ∷ [])

abbrev pub blackhole_json : BlackholeValue → Json
blackhole_json v =
    object_of
    ((codes "prefix", prefix_json v.net) ∷ (codes "router", router_json v.router) ∷ (codes "from", array_json router_json v.senders) ∷ [])
