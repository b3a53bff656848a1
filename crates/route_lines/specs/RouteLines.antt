-- A route as studies show it: what a router uses for a prefix (RFC 2328, 11), with the neighbors and interfaces of its ways.
use Rattle.std.specs.Prelude.{Bool, true, false, List, Option}
use Rattle.lsa_codec.specs.Prefix.{Net}
use Rattle.lsa_codec.specs.declared.address.Addr.{Addr}
use Rattle.lsa_codec.specs.declared.address.AreaId.{AreaId}
use Rattle.study_words.specs.declared.route_kind.RouteKind.{RouteKind}
use Rattle.study_words.specs.declared.route_kind.RouteKind.TheVariants.{External1, External2}
use Rattle.route_lines.specs.declared.route_source.RouteSource.{RouteSource}
use Rattle.route_lines.specs.declared.route_way.WayTarget.{WayTarget}

-- a way: where it leads, over which interface of the router, and the addresses of the neighbor's interface
pub record RouteWayValue : Type 0 where
  pub target : WayTarget
  pub out : Option Addr
  pub addresses : List Addr

-- a route: its prefix, where it comes from and what it costs, the least area that its paths lead through, and its ways
pub record RouteLineValue : Type 0 where
  pub net : Net
  pub source : RouteSource
  pub area : Option AreaId
  pub ways : List RouteWayValue

-- the kind of an AS-external-LSA by the type of its metric (RFC 2328, A.4.5)
abbrev pub external_kind : Bool → RouteKind
external_kind true = External2
external_kind false = External1
