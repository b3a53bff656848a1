-- Maps of the trees of all areas after one entry was put into them.
use Rattle.std.proofs.Common.{◌≡◌, ◌≢◌, Bool, true, false, ℕ, List, [], Option, Some, None, refl, sym, ap, ◌∙◌, subst, true≢false}
use Rattle.std.specs.Prelude.{is_some, IsSome, IsSomeAnd, IfSome}
use Rattle.std.specs.Bool.{OnFalse, OnTrue}
use Rattle.std.specs.Cmp.{unsigned_ties}
use Rattle.std.specs.List.{Contains}
use Rattle.std.specs.Map.{lookup}
use Rattle.std.specs.Option.{option_map, option_map_or}
use Rattle.std.specs.Ordering.{eq_by_cmp}
use Rattle.std.proofs.lemmas.Bool.{eq-eqb}
use Rattle.lsa_codec.specs.declared.address.AreaId.{AreaId}
use Rattle.lsa_codec.specs.declared.address.RouterId.{RouterId}
use Rattle.lsdb.specs.declared.section.Section.TheVariants.{Area}
use Rattle.lsdb.specs.Lists.{IsDatabase, Lists, lsas_of}
use Rattle.area_graph.specs.declared.vertex.Vertex.{Vertex}
use Rattle.area_graph.specs.declared.vertex.Vertex.TheVariants.{Router}
use Rattle.area_graph.specs.Graphs.{IsGraphOf}
use Rattle.area_graph.specs.Topology.{Topology}
use Rattle.lsa_codec.specs.Order.{area_cmp, router_cmp}
use Rattle.lsa_codec.proofs.OrderLemmas.{area_exact}
use Rattle.area_routes.proofs.VertexLemmas.{attached_vertex}
use Rattle.area_routes.specs.Attached.{is_attached}
use Rattle.area_routes.specs.declared.stub_links.StubLink.{StubLink}
use Rattle.area_routes.specs.StubLinks.{AreStubLinksOf}
use Rattle.routing_table.specs.AreaTrees.{AreaTreesValue, IsAreaOf, has_tree, graph_and_stubs}
use Rattle.routing_table.proofs.MapLemmas.{Puts, if_found, put_all, put_gains, put_here, put_other, put_passes, put_reports}
use Rattle.routing_table.specs.AreasTrees.{AreasTrees, KeptTreesValue, AreAreasOf, AreOfDatabase, IsSpareOf}
use Rattle.routing_table.specs.AreasTrees.{at_area, trees_at, trees_in, trees_of}
use Rattle.routing_table.specs.KeptTrees.{GainsOnly, IsWithin}

area_self : (area : AreaId) → eq_by_cmp area_cmp area area ≡ true
area_self area = sym (unsigned_ties area.0 area.0) ∙ eq-eqb area.0 area.0 refl

-- graphs and trees beside the graph that is spare
abbrev pub beside : Option (AreaId × AreaTreesValue) → AreasTrees → KeptTreesValue
beside spare areas = record { areas = areas; spare = spare }

-- graph and stub links
abbrev pub area_at : Option AreaTreesValue → Option (Topology × List StubLink)
area_at o = option_map graph_and_stubs o

abbrev has_at : RouterId → Option AreaTreesValue → Bool
has_at root o = option_map_or (λ kept. has_tree kept root) o false

module _ (old new : AreasTrees) (area : AreaId) (t : AreaTreesValue) (puts : Puts area_cmp old new area t) where
  -- the graph of an area came in
  pub graphs_stay : (db : Lists) → IsAreaOf (lsas_of (Area area) db) t → AreAreasOf db old → AreAreasOf db new
  graphs_stay db is all = put_all area_cmp area_exact old new area t puts (λ a kept. IsAreaOf (lsas_of (Area a) db) kept) is all

  pub no_tree_more : at_area old area ≡ None → t.trees ≡ [] → (other : AreaId) (root : RouterId) → trees_of new other root ≡ trees_of old other root
  no_tree_more absent empty other root =
      put_reports area_cmp area_exact old new area t puts (has_at root)
      (ap (λ trees. is_some (lookup (eq_by_cmp router_cmp root) trees)) empty ∙ ap (has_at root) (sym absent)) other

  pub area_here : IsSome (at_area new area)
  area_here = subst (λ o. IsSome o) (sym (put_here area_cmp area_exact old new area t puts (area_self area))) refl

  -- trees came in where there was a graph
  module _ (s : AreaTreesValue) (was : at_area old area ≡ Some s) where
    pub same_graphs : t.graph ≡ s.graph → t.stubs ≡ s.stubs → (other : AreaId) → area_at (at_area new other) ≡ area_at (at_area old other)
    same_graphs graph stubs other =
        put_reports area_cmp area_exact old new area t puts area_at ((λ i. Some (graph i, stubs i)) ∙ ap area_at (sym was)) other

    pub still_within : ((root : RouterId) → has_tree s root ≡ true → has_tree t root ≡ true) → IsWithin (trees_of old) (trees_of new)
    still_within keeps other root had =
        put_passes area_cmp area_exact old new area t puts (has_at root) (λ h. keeps root (ap (has_at root) (sym was) ∙ h)) other had

    pub only_there : (router : RouterId) → ((root : RouterId) → has_tree t root ≡ true → has_tree s root ≡ false → root ≡ router)
        → GainsOnly (eq_by_cmp area_cmp area) router (trees_of old) (trees_of new)
    only_there router only other root has lacked =
        let gained = put_gains area_cmp area_exact old new area t puts (has_at root) other has lacked in
        (only root gained.1 (sym (ap (has_at root) was) ∙ gained.2), ap (eq_by_cmp area_cmp area) gained.0 ∙ area_self area)

  pub other_areas : (other : AreaId) → other ≢ area → (root : RouterId) → trees_of new other root ≡ trees_of old other root
  other_areas other apart root = ap (has_at root) (put_other area_cmp area_exact old new area t puts other apart)

  pub tree_in : (root : RouterId) → has_tree t root ≡ true → trees_of new area root ≡ true
  tree_in root has = ap (has_at root) (put_here area_cmp area_exact old new area t puts (area_self area)) ∙ has

-- ---- graphs of a database

if_area : (lsas : List (List ℕ)) (o p : Option AreaTreesValue) → area_at o ≡ area_at p → IfSome p (IsAreaOf lsas) → IfSome o (IsAreaOf lsas)
if_area lsas None p same h = tt
if_area lsas (Some x) None same h = absurd cc
if_area lsas (Some x) (Some y) same h =
    let is : (x.graph, x.stubs) ≡ (y.graph, y.stubs) = cc in
    record {
      graph = subst (λ (a : Topology × List StubLink). IsGraphOf lsas a.0) (sym is) h.graph;
      stubs = subst (λ (a : Topology × List StubLink). AreStubLinksOf lsas a.1) (sym is) h.stubs;
    }

pub of_same_graphs : (db : Lists) (old new : KeptTreesValue) → ((area : AreaId) → area_at (trees_at new area) ≡ area_at (trees_at old area))
    → new.spare ≡ old.spare → AreOfDatabase db old → AreOfDatabase db new
of_same_graphs db old new same left all = record {
  areas = λ area. if_area (lsas_of (Area area) db) (trees_at new area) (trees_at old area) (same area) (all.areas area);
  spare = subst (λ (spare : Option (AreaId × AreaTreesValue)). IfSome spare (IsSpareOf db)) (sym left) all.spare;
}

-- the graph of an area has the routers that are attached to it
pub has_vertex : (db : Lists) (areas : KeptTreesValue) (area : AreaId) (router : RouterId) → IsDatabase db → AreOfDatabase db areas
    → is_attached db area router ≡ true
    → IsSome (trees_at areas area) → IsSomeAnd (trees_at areas area) (λ trees. Contains trees.graph.vertices (Router router))
has_vertex db areas area router sound all attached there = by (trees_at areas area) there (all.areas area)
  where
    by : (o : Option AreaTreesValue) → IsSome o → IfSome o (IsAreaOf (lsas_of (Area area) db))
        → IsSomeAnd o (λ trees. Contains trees.graph.vertices (Router router))
    by None some h = absurd (true≢false (sym some))
    by (Some kept) some h =
        subst (λ (vs : List Vertex). Contains vs (Router router)) (sym h.graph.vertices) ((attached_vertex db sound area router).0 attached)

-- ---- what a look-up found

module _ (areas : KeptTreesValue) (area : AreaId) (kept : AreaTreesValue) (is : trees_at areas area ≡ Some kept) where
  pub has_found : (router : RouterId) → trees_in areas area router ≡ true → has_tree kept router ≡ true
  has_found router has = ap (has_at router) (sym is) ∙ has

pub area_found : (db : Lists) (areas : KeptTreesValue) (area : AreaId) (kept : AreaTreesValue) → AreOfDatabase db areas
    → trees_at areas area ≡ Some kept → IsAreaOf (lsas_of (Area area) db) kept
area_found db areas area kept all is = if_found (λ k. IsAreaOf (lsas_of (Area area) db) k) (trees_at areas area) kept is (all.areas area)

pub vertex_found : (areas : KeptTreesValue) (area : AreaId) (router : RouterId) (kept : AreaTreesValue) → trees_at areas area ≡ Some kept
    → IsSomeAnd (trees_at areas area) (λ trees. Contains trees.graph.vertices (Router router)) → Contains kept.graph.vertices (Router router)
vertex_found areas area router kept is h = subst (λ o. IsSomeAnd o (λ trees. Contains trees.graph.vertices (Router router))) is h

-- ---- who is attached, by the graph

module _ (db : Lists) (sound : IsDatabase db) (area : AreaId) (router : RouterId) (kept : AreaTreesValue)
    (of : IsGraphOf (lsas_of (Area area) db) kept.graph) where
  abbrev in_graph : Type 0
  in_graph = Contains kept.graph.vertices (Router router)

  from_graph : in_graph → is_attached db area router ≡ true
  from_graph h = (attached_vertex db sound area router).1 (subst (λ (vs : List Vertex). Contains vs (Router router)) of.vertices h)

  to_graph : is_attached db area router ≡ true → in_graph
  to_graph h = subst (λ (vs : List Vertex). Contains vs (Router router)) (sym of.vertices) ((attached_vertex db sound area router).0 h)

  pub vertex_reports : (b : Bool) → OnTrue b in_graph → OnFalse b (in_graph → ⊥) → b ≡ is_attached db area router
  vertex_reports true here away = sym (from_graph here)
  vertex_reports false here away = by (is_attached db area router) refl
    where
      by : (e : Bool) → is_attached db area router ≡ e → false ≡ e
      by true e = absurd (away (to_graph e))
      by false e = refl
