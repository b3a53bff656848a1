-- The documents about routers, links and networks.
use Rattle.std.specs.Prelude.{List, [], ◌∷◌, Option, None, Some, codes}
use Rattle.json.specs.Json.{Json}
use Rattle.lsa_codec.specs.declared.address.RouterId.{RouterId}
use Rattle.lsdb.specs.Lists.{Lists}
use Rattle.routing_table.specs.Routers.{attached_routers}
use Rattle.study_text.specs.Shown.{Called}
use Rattle.link_report.specs.Links.{LinkValue, links_of_routers}
use Rattle.link_report.specs.Networks.{network_values}
use Rattle.link_report.specs.Routers.{RouterValue, router_values}
use Rattle.study_json.specs.Fields.{Fields}
use Rattle.study_json.specs.Links.{link_json}
use Rattle.study_json.specs.Networks.{network_json}
use Rattle.study_json.specs.Routers.{router_line_json}
use Rattle.study_documents.specs.Replies.{listing}
use Rattle.study_answers.specs.Known.{is_attached}
use Rattle.document_answers.specs.Documented.{DocumentedValue, HasMembers, IfThere}

-- a router with its name
abbrev pub router_json_of : Called → RouterValue → Json
router_json_of called v = router_line_json (called v.router.0) v

abbrev pub routers_reply : Called → List RouterValue → Fields
routers_reply called routers = listing (codes "routers") (router_json_of called) routers

unfoldable pub IsRoutersDocument : Called → Lists → DocumentedValue → Type 0
IsRoutersDocument called db given = HasMembers (routers_reply called (router_values db)) given

unfoldable pub IsNetworksDocument : Lists → DocumentedValue → Type 0
IsNetworksDocument db given = HasMembers (listing (codes "networks") network_json (network_values db)) given

abbrev pub links_reply : List LinkValue → Fields
links_reply links = listing (codes "links") link_json links

-- of one router, or of all
unfoldable pub IsLinksDocument : Lists → Option RouterId → DocumentedValue → Type 0
IsLinksDocument db None given = HasMembers (links_reply (links_of_routers db (attached_routers db))) given
IsLinksDocument db (Some router) given =
    IfThere (is_attached db router) given (HasMembers (links_reply (links_of_routers db (router ∷ []))) given)
