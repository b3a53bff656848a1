-- The lines of `links`, and the descriptions and names of links.
use Rattle.std.specs.Prelude.{ℕ, if◌then◌else◌, List, [], ◌++◌, map, option_map, Option, None, Some, codes, decimal}
use Rattle.lsa_codec.specs.declared.address.Addr.{Addr}
use Rattle.lsa_codec.specs.declared.address.AreaId.{AreaId}
use Rattle.lsa_codec.specs.declared.address.RouterId.{RouterId}
use Rattle.lsa_codec.specs.declared.link.Link.{Link}
use Rattle.lsa_codec.specs.declared.link.LinkKind.{LinkKind}
use Rattle.lsa_codec.specs.declared.link.LinkKind.TheVariants.{PointToPoint, Transit, Stub, Virtual, Other}
use Rattle.lsa_codec.specs.Links.{is_stub, stub_net}
use Rattle.lsa_codec.specs.Prefix.{Net}
use Rattle.lsa_codec.specs.Spelling.{address_text, prefix_text}
use Rattle.study_text.specs.Lists.{after_word, joined_or, lines_of}
use Rattle.study_text.specs.Shown.{Called, shown}
use Rattle.link_report.specs.declared.link_side.InterfaceStub.{InterfaceStub}
use Rattle.link_report.specs.Links.{LinkValue, neighbor_of}

-- ---- names

-- the kind of a link
abbrev pub kind_text : LinkKind → List ℕ
kind_text PointToPoint = codes "point-to-point"
kind_text Transit = codes "transit"
kind_text Stub = codes "stub"
kind_text Virtual = codes "virtual"
kind_text (Other code) = codes "type " ++ decimal code

-- what a link that is no stub link leads to: a router, or else the address of its Link ID
abbrev pub far_text_by : LinkKind → Called → Link → List ℕ
far_text_by PointToPoint called link = shown called (neighbor_of link)
far_text_by Transit called link = address_text link.id.0
far_text_by Stub called link = address_text link.id.0
far_text_by Virtual called link = shown called (neighbor_of link)
far_text_by (Other code) called link = address_text link.id.0

abbrev pub far_text : Called → Link → List ℕ
far_text called link = far_text_by link.kind called link

-- a prefix, or `none`
abbrev pub net_text : Option Net → List ℕ
net_text None = codes "none"
net_text (Some net) = prefix_text net

-- where a link leads: the prefix of a stub link, or the far end and the Link Data
abbrev pub where_text : Called → Link → List ℕ
where_text called link =
    if is_stub link.kind then codes " " ++ net_text (stub_net link)
    else codes " to " ++ far_text called link ++ codes ", " ++ address_text link.link_data.0

-- the name of a link: its number, its kind, and where it leads
abbrev pub numbered_text : Called → ℕ → Link → List ℕ
numbered_text called number link = codes "#" ++ decimal number ++ codes " " ++ kind_text link.kind ++ where_text called link

abbrev pub name_text : Called → LinkValue → List ℕ
name_text called v = numbered_text called v.number v.link

-- ---- descriptions

-- texts joined by slashes, or `none`
abbrev pub slashed : List (List ℕ) → List ℕ
slashed texts = joined_or (codes "none") [] (codes "/") texts

abbrev pub peers_text : List Addr → List ℕ
peers_text peers = slashed (map (λ peer. address_text peer.0) peers)

-- the costs back
abbrev pub back_text : List ℕ → List ℕ
back_text costs = codes ", back " ++ slashed (map decimal costs)

-- the stub link of an interface
abbrev pub stub_text : InterfaceStub → List ℕ
stub_text stub = decimal stub.number ++ codes " " ++ net_text (stub_net stub.link) ++ codes " cost " ++ decimal stub.link.metric

-- the same, if there is one
abbrev pub stub_after : Option InterfaceStub → List ℕ
stub_after stub = after_word (codes ", stub #") (option_map stub_text stub)

-- the link whose interface has a link as its stub link, if there is one
abbrev pub owner_text : Option ℕ → List ℕ
owner_text None = []
owner_text (Some number) = codes ", of #" ++ decimal number

-- what stands after the cost, by the kind of the link
abbrev pub rest_by : LinkKind → LinkValue → List ℕ
rest_by PointToPoint v = back_text v.back ++ codes ", peer " ++ peers_text v.peers ++ stub_after v.stub
rest_by Transit v = back_text v.back ++ codes ", network " ++ net_text v.net
rest_by Stub v = owner_text v.owner
rest_by Virtual v = []
rest_by (Other code) v = []

abbrev pub rest_text : LinkValue → List ℕ
rest_text v = rest_by v.link.kind v

-- the description of a link: its name, its cost, and what is known of its other end
abbrev pub description : Called → LinkValue → List ℕ
description called v = name_text called v ++ codes ", cost " ++ decimal v.link.metric ++ rest_text v

-- ---- lines

-- the router and the area
abbrev pub place_text : Called → RouterId → AreaId → List ℕ
place_text called router area = shown called router ++ codes " area " ++ address_text area.0 ++ codes " "

-- the line of a link: the router, the area and the description
abbrev pub link_line : Called → LinkValue → List ℕ
link_line called v = place_text called v.router v.area ++ description called v

abbrev pub link_lines : Called → List LinkValue → List ℕ
link_lines called values = lines_of (link_line called) values
