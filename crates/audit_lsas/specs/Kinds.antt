-- Kinds of findings that an LSA has by itself.
use Rattle.std.specs.Prelude.{ℕ, Bool, true, false, ◌==◌, ◌&&◌, ◌||◌, not, nat_le, if◌then◌else◌, List, None, Some}
use Rattle.std.specs.List.{list_any}
use Rattle.lsa_codec.specs.declared.link.Link.{Link}
use Rattle.lsa_codec.specs.declared.link.LinkKind.{LinkKind}
use Rattle.lsa_codec.specs.declared.link.LinkKind.TheVariants.{PointToPoint, Transit, Stub, Virtual, Other}
use Rattle.lsa_codec.specs.Fields.{byte_at, kind_of}
use Rattle.lsa_codec.specs.Key.{is_at_max_age}
use Rattle.lsa_codec.specs.Links.{has_cost, links_of}
use Rattle.lsdb.specs.Lists.{Lists}
use Rattle.area_graph.specs.Area.{is_live, is_router_lsa}
use Rattle.area_routes.specs.Entries.{flags_of, has_bit}
use Rattle.audit_places.specs.Places.{PlaceValue}
use Rattle.audit_lsas.specs.declared.left_out.LeftOut.{LeftOut}
use Rattle.audit_lsas.specs.declared.left_out.LeftOut.TheVariants.{Nssa, Opaque, Flushed}
use Rattle.audit_lsas.specs.declared.scope.AreaScope.{AreaScope}
use Rattle.audit_lsas.specs.Found.{LsaTest, lsa_places}

abbrev pub is_live_router_lsa : List ℕ → Bool
is_live_router_lsa lsa = is_router_lsa lsa && is_live lsa

-- ---- LSAs that are left out

-- LSAs of type 7, with the external prefixes of an NSSA (RFC 3101)
abbrev pub is_nssa : List ℕ → Bool
is_nssa lsa = is_live lsa && (kind_of lsa == 7)

-- LSAs of multicast groups (type 6, RFC 1584), and opaque ones and others of types 8 to 11 (RFC 5250)
abbrev pub is_opaque : List ℕ → Bool
is_opaque lsa = is_live lsa && ((kind_of lsa == 6) || (nat_le 8 (kind_of lsa) && nat_le (kind_of lsa) 11))

-- LSAs that are left out for a reason; those at MaxAge are being flushed (RFC 2328, 14)
abbrev pub is_left_out : LeftOut → List ℕ → Bool
is_left_out Nssa lsa = is_nssa lsa
is_left_out Opaque lsa = is_opaque lsa
is_left_out Flushed lsa = is_at_max_age lsa

abbrev pub left_out_places : LeftOut → Lists → List PlaceValue
left_out_places why db = lsa_places (λ scope. is_left_out why) db

abbrev pub nssa_places : Lists → List PlaceValue
nssa_places db = left_out_places Nssa db

abbrev pub opaque_places : Lists → List PlaceValue
opaque_places db = left_out_places Opaque db

abbrev pub max_age_places : Lists → List PlaceValue
max_age_places db = left_out_places Flushed db

-- ---- router-LSAs

-- bit E of the options (A.2): the router takes AS-external-LSAs, as in an area that is no stub area
abbrev pub takes_externals : List ℕ → Bool
takes_externals lsa = has_bit 2 (byte_at 2 lsa)

-- bit E of the options does not fit the kind of the area (3.6)
abbrev pub is_unfit : AreaScope → List ℕ → Bool
is_unfit area lsa = if area.is_stub then takes_externals lsa else not (takes_externals lsa)

abbrev pub is_of_other_kind : AreaScope → List ℕ → Bool
is_of_other_kind area lsa = is_live_router_lsa lsa && is_unfit area lsa

abbrev pub is_misfit : LsaTest
is_misfit None lsa = false
is_misfit (Some area) lsa = is_of_other_kind area lsa

abbrev pub area_kind_places : Lists → List PlaceValue
area_kind_places db = lsa_places is_misfit db

abbrev pub is_virtual_link : LinkKind → Bool
is_virtual_link PointToPoint = false
is_virtual_link Transit = false
is_virtual_link Stub = false
is_virtual_link Virtual = true
is_virtual_link (Other code) = false

-- a router-LSA with a virtual link, or with bit V of its flags: the router is an end of one (15 and A.4.2)
abbrev pub has_virtual_link : LsaTest
has_virtual_link scope lsa =
    is_live_router_lsa lsa && (has_bit 4 (flags_of lsa) || list_any (λ link. is_virtual_link link.kind) (links_of lsa))

abbrev pub virtual_link_places : Lists → List PlaceValue
virtual_link_places db = lsa_places has_virtual_link db

-- the greatest metric of a link, MaxLinkMetric (RFC 6987)
abbrev pub max_link_metric : ℕ
max_link_metric = 0xffff

-- a link to a router or a transit network with less than the greatest metric
abbrev pub is_open : Link → Bool
is_open link = has_cost link.kind && not (link.metric == max_link_metric)

-- a router-LSA with links to routers or transit networks, which all have the greatest metric (RFC 6987)
abbrev pub is_drained : LsaTest
is_drained scope lsa =
    is_live_router_lsa lsa && (list_any (λ link. has_cost link.kind) (links_of lsa) && not (list_any is_open (links_of lsa)))

abbrev pub drained_places : Lists → List PlaceValue
drained_places db = lsa_places is_drained db
