-- The JSON of numbers, addresses, prefixes, words, lists, and what may be missing.
use Rattle.std.specs.Prelude.{ℕ, List, map, Option, None, Some, decimal}
use Rattle.json.specs.Json.{Json, null, number, string, array}
use Rattle.json.specs.Value.{items_of}
use Rattle.lsa_codec.specs.declared.address.Addr.{Addr}
use Rattle.lsa_codec.specs.declared.address.AreaId.{AreaId}
use Rattle.lsa_codec.specs.declared.address.RouterId.{RouterId}
use Rattle.lsa_codec.specs.Prefix.{Net}
use Rattle.lsa_codec.specs.Spelling.{address_text, prefix_text}
use Rattle.study_words.specs.RouteKinds.{route_kind_text}
use Rattle.study_words.specs.declared.route_kind.RouteKind.{RouteKind}

abbrev pub number_json : ℕ → Json
number_json n = number (decimal n)

abbrev pub address_json : Addr → Json
address_json address = string (address_text address.0)

abbrev pub area_json : AreaId → Json
area_json area = string (address_text area.0)

-- a Router ID in dotted form, never a name
abbrev pub router_json : RouterId → Json
router_json router = string (address_text router.0)

abbrev pub prefix_json : Net → Json
prefix_json net = string (prefix_text net)

abbrev pub kind_json : RouteKind → Json
kind_json kind = string (route_kind_text kind)

-- `null` for what is missing
abbrev pub option_json : {X : Type 0} → (X → Json) → Option X → Json
option_json json None = null
option_json json (Some x) = json x

abbrev pub array_json : {X : Type 0} → (X → Json) → List X → Json
array_json json xs = array (items_of (map json xs))
