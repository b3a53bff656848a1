use Rattle.std.proofs.Common.{◌≡◌, ◌++◌, drop}
use Rattle.std.specs.List.{enumerate_from, filter_map, list_any}
use Rattle.area_graph.specs.Vertex.{is_same}
use Rattle.audit_links.specs.OneWay.{place_of_link, places_of_links}
use Rattle.audit_links.proofs.one_way_links.places_of_links.Given as goal

-- the places of the links so far, and those of the links that are left
abbrev pub invariant-loop-before : goal.invariant-loop-before
invariant-loop-before g l =
    l.places.items
    ++ filter_map (place_of_link l.area l.router (λ v. list_any (is_same v) l.ends)) (enumerate_from l.before (drop l.before l.links))
    ≡ places_of_links l.area l.router (λ v. list_any (is_same v) l.ends) l.links
