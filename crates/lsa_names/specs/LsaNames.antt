-- What LSAs are called: by area, type, what they describe, and Advertising Router (RFC 2328, 12.1).
use Rattle.std.specs.Prelude.{ℕ, ◌==◌, if◌then◌else◌, List, [], ◌++◌, Option, None, Some, codes, decimal}
use Rattle.lsa_codec.specs.declared.address.Addr.{Addr}
use Rattle.lsa_codec.specs.declared.address.AreaId.{AreaId}
use Rattle.lsa_codec.specs.declared.address.RouterId.{RouterId}
use Rattle.lsa_codec.specs.LsTypes.{router_lsa, network_lsa, summary_lsa, asbr_summary_lsa, external_lsa}
use Rattle.lsa_codec.specs.Fields.{kind_of}
use Rattle.lsa_codec.specs.Key.{key_of}
use Rattle.lsa_codec.specs.Prefix.{Net}
use Rattle.lsa_codec.specs.Spelling.{address_text, prefix_text}
use Rattle.lsa_codec.specs.Views.{net_of_lsa}
use Rattle.study_text.specs.Shown.{Called, shown}
use Rattle.lsa_names.specs.declared.lsa_name.LsaName.{LsaName}

-- the prefix of a network-LSA, of a summary-LSA of type 3 or of an AS-external-LSA
abbrev pub net_of_any : List ℕ → Option Net
net_of_any lsa =
    if kind_of lsa == network_lsa then Some (net_of_lsa lsa) else
    if kind_of lsa == summary_lsa then Some (net_of_lsa lsa) else
    if kind_of lsa == external_lsa then Some (net_of_lsa lsa) else None

-- the name of an LSA of an area, or of AS scope
abbrev pub lsa_name : Option AreaId → List ℕ → LsaName
lsa_name area lsa = record { area = area; key = key_of lsa; net = net_of_any lsa }

-- ---- texts

abbrev pub front_text : Option AreaId → List ℕ
front_text None = []
front_text (Some area) = codes "area " ++ address_text area.0 ++ codes " "

abbrev pub originator_text : Called → RouterId → List ℕ
originator_text called router = codes " by " ++ shown called router

-- the Link State ID, where it is not the address of the prefix: it has host bits (E)
abbrev pub id_text : Net → Addr → List ℕ
id_text net id = if net.addr.0 == id.0 then [] else codes " id " ++ address_text id.0

abbrev pub net_text : Option Net → Addr → List ℕ
net_text None id = []
net_text (Some net) id = prefix_text net ++ id_text net id

-- the type of an LSA that is no router-LSA, and what it describes
abbrev pub subject_text : Called → LsaName → List ℕ
subject_text called name =
    if name.key.kind == network_lsa then codes "network " ++ address_text name.key.id.0 else
    if name.key.kind == summary_lsa then codes "summary " ++ net_text name.net name.key.id else
    if name.key.kind == asbr_summary_lsa then codes "asbr-summary " ++ shown called (record { 0 = name.key.id.0 }) else
    if name.key.kind == external_lsa then codes "external " ++ net_text name.net name.key.id else
    codes "type " ++ decimal name.key.kind ++ codes " " ++ address_text name.key.id.0

-- what an LSA is called
abbrev pub name_text : Called → LsaName → List ℕ
name_text called name =
    front_text name.area
    ++ (if name.key.kind == router_lsa then codes "router " ++ shown called name.key.adv
    else subject_text called name ++ originator_text called name.key.adv)
