-- The lines of `networks`.
use Rattle.std.specs.Prelude.{ℕ, List, [], ◌++◌, map, codes}
use Rattle.lsa_codec.specs.declared.address.RouterId.{RouterId}
use Rattle.lsa_codec.specs.Spelling.{address_text, prefix_text}
use Rattle.study_text.specs.Lists.{joined_or, lines_of, listed}
use Rattle.study_text.specs.Shown.{Called, shown}
use Rattle.link_report.specs.Networks.{NetworkValue}

-- the prefix, the area, and the Designated Router with its address
abbrev pub designated_text : Called → NetworkValue → List ℕ
designated_text called v =
    prefix_text v.place.net ++ codes " area " ++ address_text v.area.0 ++ codes " dr " ++ shown called v.router ++ codes " " ++ address_text v.place.address.0

-- the routers that are listed and have a link to the network, and those that have none, if there are any
abbrev pub members_text : Called → List RouterId → List RouterId → List ℕ
members_text called members one_way =
    codes " members " ++ listed (map (shown called) members) ++ joined_or [] (codes " one-way ") (codes ",") (map (shown called) one_way)

-- the line of a network
abbrev pub network_line : Called → NetworkValue → List ℕ
network_line called v = designated_text called v ++ members_text called v.members v.one_way

abbrev pub network_lines : Called → List NetworkValue → List ℕ
network_lines called values = lines_of (network_line called) values
