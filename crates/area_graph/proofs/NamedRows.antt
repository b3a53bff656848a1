-- Rows of edges to the vertices that LSAs name.
use Rattle.std.proofs.Common.{◌≡◌, ℕ, zero, suc, ◌<◌, Bool, true, false, cond, List, [], ◌∷◌, ◌++◌, map, length, Option, None, Some, refl}
use Rattle.std.proofs.Common.{sym, ap, ◌∙◌, subst, append_assoc}
use Rattle.std.specs.List.{All, AllByRecursion, position, filter_map, cons_option}
use Rattle.std.specs.Option.{option_map}
use Rattle.std.proofs.lemmas.List.{length-map}
use Rattle.std.proofs.lemmas.List.Elements.{All-from_recursion, filter_map-append}
use Rattle.lsa_codec.specs.declared.address.Addr.{Addr}
use Rattle.lsa_codec.specs.declared.address.RouterId.{RouterId}
use Rattle.lsa_codec.specs.declared.link.Link.{Link}
use Rattle.lsa_codec.specs.Links.{links_of}
use Rattle.lsa_codec.specs.Views.{attached_of}
use Rattle.area_graph.specs.declared.vertex.Vertex.{Vertex}
use Rattle.area_graph.specs.declared.vertex.Vertex.TheVariants.{Router}
use Rattle.area_graph.specs.declared.edge.Edge.{Edge}
use Rattle.area_graph.specs.Vertex.{is_same}
use Rattle.area_graph.specs.Area.{is_router_lsa, is_network_lsa}
use Rattle.area_graph.specs.AreaEdges.{target_of}
use Rattle.area_graph.specs.steps.Naming.{edge_to_some, linked, listed, naming, row_in}
use Rattle.area_graph.specs.steps.Drafts.{AreWithin}
use Rattle.area_graph.proofs.VertexNumbers.{found}

-- ---- one more item

pub more_of : {X Y : Type 0} (f : X → Option Y) (xs : List X) (x : X) (old mid new : List Y) → mid ≡ old ++ filter_map f xs → new ≡ mid ++ cons_option (f x) []
    → new ≡ old ++ filter_map f (xs ++ x ∷ [])
more_of {X} {Y} f xs x old mid new before is =
    is ∙ ap (λ (ys : List Y). ys ++ cons_option (f x) []) before ∙ append_assoc old (filter_map f xs) (cons_option (f x) [])
    ∙ ap (λ (ys : List Y). old ++ ys) (sym (filter_map-append f xs (x ∷ [])))

-- ---- none but vertices

module _ (vs : List Vertex) where
  abbrev IsIn : Edge → Type 0
  IsIn e = e.to < length vs

  one_within : (o : Option Vertex) (cost : ℕ) (d : Addr) (row : List Edge) → AllByRecursion IsIn row
      → AllByRecursion IsIn (cons_option (edge_to_some vs o cost d) row)
  one_within None cost d row rest = rest
  one_within (Some u) cost d row rest = by (position (is_same u) vs) refl
    where
      by : (o : Option ℕ) → position (is_same u) vs ≡ o → AllByRecursion IsIn (cons_option (option_map (λ to. let e : Edge = record { to = to; cost = cost; link_data = d } in e) o) row)
      by None at = rest
      by (Some j) at = ((found vs u j at).0, rest)

  linked_within : (links : List Link) → AllByRecursion IsIn (filter_map (linked vs) links)
  linked_within [] = tt
  linked_within (link ∷ links) = one_within (target_of link) link.metric link.link_data (filter_map (linked vs) links) (linked_within links)

  listed_within : (routers : List RouterId) → AllByRecursion IsIn (filter_map (listed vs) routers)
  listed_within [] = tt
  listed_within (router ∷ routers) =
      one_within (Some (Router router)) 0 (record { 0 = 0 }) (filter_map (listed vs) routers) (listed_within routers)

  naming_within : (lsa : List ℕ) → AllByRecursion IsIn (naming vs lsa)
  naming_within lsa = by (is_router_lsa lsa) (is_network_lsa lsa)
    where
      by : (b c : Bool) → AllByRecursion IsIn (cond b (filter_map (linked vs) (links_of lsa)) (cond c (filter_map (listed vs) (attached_of lsa)) []))
      by true c = linked_within (links_of lsa)
      by false true = listed_within (attached_of lsa)
      by false false = tt

  row_within : (lsas : List (List ℕ)) (i : ℕ) → All IsIn (row_in (map (naming vs) lsas) i)
  row_within [] i = All-from_recursion IsIn [] tt
  row_within (lsa ∷ lsas) zero = All-from_recursion IsIn (naming vs lsa) (naming_within lsa)
  row_within (lsa ∷ lsas) (suc i) = row_within lsas i

-- the rows of LSAs with these vertices
pub rows_within : (vs : List Vertex) (lsas : List (List ℕ)) (rows : List (List Edge)) → length vs ≡ length lsas → rows ≡ map (naming vs) lsas
    → AreWithin (length rows) rows
rows_within vs lsas rows sized are =
    let size : length rows ≡ length vs = ap (λ (rs : List (List Edge)). length rs) are ∙ length-map lsas (naming vs) ∙ sym sized in
    subst (λ (rs : List (List Edge)). AreWithin (length rows) rs) (sym are)
    (subst (λ (n : ℕ). AreWithin n (map (naming vs) lsas)) (sym size) (row_within vs lsas))
