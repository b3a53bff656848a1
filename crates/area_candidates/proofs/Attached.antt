-- An area that a router is attached to is there, and the router is a vertex of its graph.
use Rattle.std.proofs.Common.{◌≡◌, true, Option, None, Some, refl, sym, ap, ◌∙◌, subst}
use Rattle.std.specs.List.{Contains, find}
use Rattle.std.proofs.lemmas.Bool.{false≢true}
use Rattle.lsa_codec.specs.declared.address.AreaId.{AreaId}
use Rattle.lsa_codec.specs.declared.address.RouterId.{RouterId}
use Rattle.lsdb.specs.declared.section.Section.TheVariants.{Area}
use Rattle.lsdb.specs.Lists.{Lists, SectionLsas, is_section, lsas_of, lsas_or_none}
use Rattle.area_graph.specs.Area.{vertices_of}
use Rattle.area_graph.specs.declared.fault.GraphFault.{GraphFault}
use Rattle.area_graph.specs.declared.fault.GraphFault.TheVariants.{NoArea, OutOfMemory}
use Rattle.area_graph.specs.declared.vertex.Vertex.TheVariants.{Router}
use Rattle.area_graph.specs.Graphs.{FaultMeans, IsGraphOf}
use Rattle.area_graph.specs.Topology.{Topology}
use Rattle.spf.specs.declared.fault.SpfFault.{SpfFault}
use Rattle.spf.specs.declared.fault.SpfFault.TheVariants as spf
use Rattle.spf.specs.Distances as distances
use Rattle.area_routes.specs.Attached.{has_live_router_lsa, is_attached}

module _ (db : Lists) (area : AreaId) (router : RouterId) (attached : is_attached db area router ≡ true) where
  pub area_is_there : (fault : GraphFault) → fault ≡ NoArea → FaultMeans (find (is_section (Area area)) db) fault → ⊥
  area_is_there fault is means = by (find (is_section (Area area)) db) refl means
    where
      by : (o : Option SectionLsas) → find (is_section (Area area)) db ≡ o → FaultMeans o fault → ⊥
      by None none m = false≢true (sym (ap (λ (o : Option SectionLsas). has_live_router_lsa router (lsas_or_none o)) none) ∙ attached)
      by (Some section) some m = let clash : NoArea ≡ OutOfMemory = sym is ∙ m in absurd (cc)

  module _ (graph : Topology) (is : IsGraphOf (lsas_of (Area area) db) graph)
      (vertices : is_attached db area router ≡ true → Contains (vertices_of (lsas_of (Area area) db)) (Router router)) where
    pub router_is_there : (fault : SpfFault) → fault ≡ spf.NoRouter → distances.FaultMeans graph (Router router) fault → ⊥
    router_is_there fault unknown means =
        let absent : distances.FaultMeans graph (Router router) spf.NoRouter = subst (λ (f : SpfFault). distances.FaultMeans graph (Router router) f) unknown means in
        absent (subst (λ vs. Contains vs (Router router)) (sym is.vertices) (vertices attached))
