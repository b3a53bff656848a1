-- The texts of routers with prefixes that they have no entry for any more.
use Rattle.std.specs.Prelude.{ℕ, Bool, ◌==◌, ◌&&◌, not, List, [], ◌++◌, map, length, Option, Some, codes}
use Rattle.std.specs.List.{filter, list_any}
use Rattle.lsa_codec.specs.Prefix.{Net}
use Rattle.lsa_codec.specs.declared.address.RouterId.{RouterId}
use Rattle.study_text.specs.Lists.{first_three, joined_or}
use Rattle.study_text.specs.Shown.{Called, shown}
use Rattle.route_lines.specs.RouteLines.{RouteLineValue}
use Rattle.change_lines.specs.ChangeTexts.{at_text, counted, route_after}
use Rattle.change_lines.specs.declared.pair.Pair.{Pair}

-- a pair, the route that the router had, and the routers that announce the prefix still
pub record PairLineValue : Type 0 where
  pub pair : Pair
  pub was : Option RouteLineValue
  pub announced : List RouterId

abbrev pub pair_text : Called → Pair → List ℕ
pair_text called pair = at_text called pair.router (Some pair.net)

-- the routers that announce a prefix, if there are any
abbrev pub announced_text : Called → List RouterId → List ℕ
announced_text called routers = joined_or [] (codes " announced ") (codes ",") (map (shown called) routers)

-- the line of a pair
abbrev pub pair_line : Called → PairLineValue → List ℕ
pair_line called line = pair_text called line.pair ++ route_after called (codes " was ") line.was ++ announced_text called line.announced

-- ---- what was found

-- after a word, the number of pairs, and the first of them
abbrev pub pairs_found : Called → List ℕ → List Pair → List ℕ
pairs_found called word pairs = counted word (length pairs) ++ first_three (map (pair_text called) pairs)

abbrev pub same_net : Net → Net → Bool
same_net a b = (a.addr.0 == b.addr.0) && (a.len == b.len)

abbrev pub is_listed : List Net → Net → Bool
is_listed nets net = list_any (same_net net) nets

-- the pairs whose prefixes are not listed
abbrev pub unlisted : List Net → List Pair → List Pair
unlisted nets pairs = filter (λ pair. not (is_listed nets pair.net)) pairs

-- after a word, the number of pairs, that of those which are not listed, and the first of these
abbrev pub unlisted_found : Called → List ℕ → List Pair → List Pair → List ℕ
unlisted_found called word pairs others =
    counted word (length pairs) ++ counted (codes ", not listed") (length others) ++ first_three (map (pair_text called) others)
