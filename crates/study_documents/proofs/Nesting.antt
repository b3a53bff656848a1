-- How deep replies nest.
use Rattle.std.proofs.Common.{ℕ, Bool, true, false, ◌≤◌, List, [], Option, None, Some, arith}
use Rattle.std.specs.Prelude.{slice_get}
use Rattle.json.specs.Json.{string}
use Rattle.json.specs.Tree.{depth, members_depth}
use Rattle.lsa_codec.specs.declared.address.Addr.{Addr}
use Rattle.lsa_codec.specs.declared.link.LinkKind.{LinkKind}
use Rattle.lsa_codec.specs.declared.link.LinkKind.TheVariants.{PointToPoint, Transit, Stub, Virtual, Other}
use Rattle.link_report.specs.declared.link_side.InterfaceStub.{InterfaceStub}
use Rattle.link_report.specs.Links.{LinkValue}
use Rattle.link_report.specs.Networks.{NetworkValue}
use Rattle.link_report.specs.Routers.{RouterValue}
use Rattle.change_lines.specs.ChangeTexts.{ChangeLineValue, ChangesValue}
use Rattle.change_lines.specs.PairTexts.{PairLineValue}
use Rattle.loop_report.specs.Blackholes.{BlackholeValue}
use Rattle.loop_report.specs.Loops.{LoopValue}
use Rattle.sweep_report.specs.declared.outcome.FailureLine.{FailureLine}
use Rattle.sweep_report.specs.declared.outcome.Outcome.{Outcome}
use Rattle.sweep_report.specs.declared.outcome.Outcome.TheVariants as outcome
use Rattle.best_ways.specs.Values.{RouteValue}
use Rattle.routing_table.specs.Tables.{TableValue}
use Rattle.lsa_codec.specs.Links.{stub_net}
use Rattle.route_lines.specs.declared.own_source.OwnSource.{OwnSource}
use Rattle.route_lines.specs.declared.path_step.PathStep.{PathStep}
use Rattle.route_lines.specs.declared.path_step.StepTarget.{StepTarget}
use Rattle.route_lines.specs.declared.path_step.StepTarget.TheVariants as step
use Rattle.route_lines.specs.declared.path_step.StepWay.{StepWay}
use Rattle.route_lines.specs.declared.route_source.RouteSource.{RouteSource}
use Rattle.route_lines.specs.declared.route_way.WayTarget.{WayTarget}
use Rattle.route_lines.specs.declared.route_way.WayTarget.TheVariants as way
use Rattle.route_lines.specs.RouteLines.{RouteLineValue, RouteWayValue}
use Rattle.study_documents.proofs.NestingLemmas.{array_shallow, option_shallow}
use Rattle.study_json.specs.Fields.{members_by, object_of}
use Rattle.study_json.specs.Leaves.{address_json, area_json, number_json, prefix_json, router_json}
use Rattle.study_json.specs.Changes.{change_json, counts_json, pair_json}
use Rattle.study_json.specs.Failures.{failure_json, outcome_fields}
use Rattle.study_json.specs.Loops.{blackhole_json, loop_json}
use Rattle.study_json.specs.Networks.{network_json}
use Rattle.study_json.specs.Routers.{roles_json, router_line_json}
use Rattle.study_json.specs.Tables.{hop_json, table_json, table_route_json}
use Rattle.study_json.specs.Links.{link_json, rest_by, stub_json}
use Rattle.study_json.specs.Routes.{forward_of, metric_of, route_json, route_rest, target_fields, way_json}
use Rattle.study_documents.specs.Compared.{RouteChangeValue, route_change_json}
use Rattle.study_json.specs.Steps.{leading_fields, step_json, step_rest, taken_by}

-- ---- routes

way_by : (addresses : List Addr) (out : Option Addr) (target : WayTarget) → depth (object_of (target_fields addresses out target)) ≤ 2
way_by addresses out (way.Via router) =
    omega (arith, option_shallow address_json 0 (λ a. omega arith) out, array_shallow address_json 0 (λ a. omega arith) addresses)
way_by addresses out way.Direct = omega (arith, option_shallow address_json 0 (λ a. omega arith) out)
way_by addresses out (way.Exit address) =
    omega (arith, option_shallow address_json 0 (λ a. omega arith) out, option_shallow address_json 0 (λ a. omega arith) address)

pub way_shallow : (w : RouteWayValue) → depth (way_json w) ≤ 2
way_shallow w = way_by w.addresses w.out w.target

route_by : (route : RouteLineValue) (own : Option OwnSource) → members_depth (members_by (route_rest route own)) ≤ 3
route_by route None =
    omega (
      arith,
      option_shallow number_json 0 (λ n. omega arith) (metric_of route.source.kind route.source.metric),
      option_shallow area_json 0 (λ a. omega arith) route.area,
      array_shallow way_json 2 way_shallow route.ways,
    )
route_by route (Some own) = omega (arith, option_shallow address_json 0 (λ a. omega arith) (forward_of own.forward))

pub route_shallow : (route : RouteLineValue) → depth (route_json route) ≤ 4
route_shallow route = omega (arith, route_by route route.source.own)

-- ---- steps of paths

taken_shallow : (source : RouteSource) (own : Option OwnSource) → members_depth (members_by (taken_by source own)) ≤ 0
taken_shallow source None = omega (arith, option_shallow number_json 0 (λ n. omega arith) (metric_of source.kind source.metric))
taken_shallow source (Some own) = omega arith

leading_shallow : (out : Option Addr) (target : StepTarget) → members_depth (members_by (leading_fields out target)) ≤ 0
leading_shallow out (step.To router cost) = omega (arith, option_shallow address_json 0 (λ a. omega arith) out)
leading_shallow out step.Delivered = omega (arith, option_shallow address_json 0 (λ a. omega arith) out)
leading_shallow out (step.External address) =
    omega (arith, option_shallow address_json 0 (λ a. omega arith) out, option_shallow address_json 0 (λ a. omega arith) address)

step_by : (w : Option StepWay) → members_depth (members_by (step_rest w)) ≤ 1
step_by None = omega arith
step_by (Some w) = omega (arith, taken_shallow w.source w.source.own, leading_shallow w.out w.target)

pub step_shallow : (s : PathStep) → depth (step_json s) ≤ 2
step_shallow s = omega (arith, step_by s.way)

-- ---- links

stub_shallow : (stub : InterfaceStub) → depth (stub_json stub) ≤ 1
stub_shallow stub = omega (arith, option_shallow prefix_json 0 (λ n. omega arith) (stub_net stub.link))

link_by : (kind : LinkKind) (v : LinkValue) → members_depth (members_by (rest_by kind v)) ≤ 1
link_by PointToPoint v =
    omega (
      arith,
      array_shallow number_json 0 (λ n. omega arith) v.back,
      array_shallow address_json 0 (λ a. omega arith) v.peers,
      option_shallow stub_json 1 stub_shallow v.stub,
    )
link_by Transit v = omega (arith, array_shallow number_json 0 (λ n. omega arith) v.back, option_shallow prefix_json 0 (λ n. omega arith) v.net)
link_by Stub v =
    omega (arith, option_shallow prefix_json 0 (λ n. omega arith) v.net, option_shallow number_json 0 (λ n. omega arith) v.owner)
link_by Virtual v = omega arith
link_by (Other code) v = omega arith

pub link_shallow : (v : LinkValue) → depth (link_json v) ≤ 2
link_shallow v = omega (arith, link_by v.link.kind v)

-- ---- routers and networks

roles_by : (is_abr is_asbr : Bool) → depth (roles_json is_abr is_asbr) ≤ 1
roles_by true true = omega arith
roles_by true false = omega arith
roles_by false true = omega arith
roles_by false false = omega arith

pub router_shallow : (name : Option (List ℕ)) (v : RouterValue) → depth (router_line_json name v) ≤ 2
router_shallow name v =
    omega (
      arith,
      option_shallow string 0 (λ s. omega arith) name,
      array_shallow area_json 0 (λ a. omega arith) v.areas,
      roles_by v.is_abr v.is_asbr,
    )

pub network_shallow : (v : NetworkValue) → depth (network_json v) ≤ 2
network_shallow v =
    omega (arith, array_shallow router_json 0 (λ r. omega arith) v.members, array_shallow router_json 0 (λ r. omega arith) v.one_way)

-- ---- what differs

pub change_shallow : (line : ChangeLineValue) → depth (change_json line) ≤ 5
change_shallow line =
    omega (
      arith,
      option_shallow prefix_json 0 (λ n. omega arith) line.name.net,
      option_shallow route_json 4 route_shallow line.now,
      option_shallow route_json 4 route_shallow line.was,
    )

pub counts_shallow : (changes : ChangesValue) → depth (counts_json changes) ≤ 1
counts_shallow changes = omega arith

pub pair_shallow : (line : PairLineValue) → depth (pair_json line) ≤ 5
pair_shallow line =
    omega (arith, option_shallow route_json 4 route_shallow line.was, array_shallow router_json 0 (λ r. omega arith) line.announced)

-- ---- failures

outcome_shallow : (o : Outcome) → members_depth (members_by (outcome_fields o)) ≤ 1
outcome_shallow (outcome.Counted counts) = omega arith
outcome_shallow (outcome.Refused fault) = omega arith

pub failure_shallow : (line : FailureLine) → depth (failure_json line) ≤ 2
failure_shallow line = omega (arith, outcome_shallow line.outcome)

-- ---- loops and tables

pub loop_shallow : (v : LoopValue) → depth (loop_json v) ≤ 2
loop_shallow v = omega (arith, array_shallow router_json 0 (λ r. omega arith) v.routers)

pub blackhole_shallow : (v : BlackholeValue) → depth (blackhole_json v) ≤ 2
blackhole_shallow v = omega (arith, array_shallow router_json 0 (λ r. omega arith) v.senders)

pub table_route_shallow : (r : RouteValue) → depth (table_route_json r) ≤ 2
table_route_shallow r =
    omega (arith, option_shallow area_json 0 (λ a. omega arith) (slice_get r.areas 0), array_shallow hop_json 0 (λ h. omega arith) r.hops)

pub table_shallow : (t : TableValue) → depth (table_json t) ≤ 4
table_shallow t = omega (arith, array_shallow table_route_json 2 table_route_shallow t.routes)

pub route_change_shallow : (c : RouteChangeValue) → depth (route_change_json c) ≤ 3
route_change_shallow c =
    omega (arith, option_shallow table_route_json 2 table_route_shallow c.now, option_shallow table_route_json 2 table_route_shallow c.was)
