-- The links of a router-LSA that a word of an edit names (RFC 2328, A.4.2).
use Rattle.std.specs.Prelude.{ℕ, ◌==◌, ◌&&◌, ◌||◌, Bool, true, false, List, map, filter, Option, Some, None}
use Rattle.std.specs.List.{enumerate_from}
use Rattle.lsa_codec.specs.declared.address.Addr.{Addr}
use Rattle.lsa_codec.specs.declared.link.Link.{Link}
use Rattle.lsa_codec.specs.declared.link.LinkKind.{LinkKind}
use Rattle.lsa_codec.specs.declared.link.LinkKind.TheVariants.{PointToPoint, Transit, Stub, Virtual, Other}
use Rattle.lsa_codec.specs.Links.{links_of, stub_net}
use Rattle.lsa_codec.specs.Prefix.{Net}
use Rattle.study_arguments.specs.declared.link.LinkName.{LinkName}
use Rattle.study_arguments.specs.declared.link.LinkName.TheVariants.{Number, Address, Prefix}

-- a link to a router, of type 1 or 4
abbrev pub is_to_router : LinkKind → Bool
is_to_router PointToPoint = true
is_to_router Transit = false
is_to_router Stub = false
is_to_router Virtual = true
is_to_router (Other code) = false

-- a link whose Link Data is an address, of type 1, 2 or 4
abbrev pub is_addressed : LinkKind → Bool
is_addressed PointToPoint = true
is_addressed Transit = true
is_addressed Stub = false
is_addressed Virtual = true
is_addressed (Other code) = false

-- a link of type 1, 2 or 4 with this Link Data
abbrev pub has_address : Addr → Link → Bool
has_address address link = is_addressed link.kind && (link.link_data.0 == address.0)

-- a link of type 1 or 4 to the router with this Router ID
abbrev pub leads_to_router : Addr → Link → Bool
leads_to_router router link = is_to_router link.kind && (link.id.0 == router.0)

abbrev pub is_net : Net → Option Net → Bool
is_net net None = false
is_net net (Some other) = (other.addr.0 == net.addr.0) && (other.len == net.len)

-- a word names a link with this number
abbrev pub is_named : LinkName → ℕ → Link → Bool
is_named (Number named) number link = named == number
is_named (Address address) number link = has_address address link || leads_to_router address link
is_named (Prefix net) number link = is_net net (stub_net link)

-- the numbers of the links that a word names, counted from 1
abbrev pub link_numbers : LinkName → List ℕ → List ℕ
link_numbers name lsa = map (λ one. one.0) (filter (λ one. is_named name one.0 one.1) (enumerate_from 1 (links_of lsa)))
