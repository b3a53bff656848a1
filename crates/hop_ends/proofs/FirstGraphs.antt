-- The graphs of the first areas, and the graph of one of them.
use Rattle.std.proofs.Common.{◌≡◌, ℕ, zero, suc, ◌+◌, ◌<◌, false, List, [], ◌∷◌, ◌++◌, length, get_or, Option, None, Some, refl, sym, ap, ◌∙◌, subst, arith, ◌⊎◌}
use Rattle.std.proofs.Common.{inl, inr, ⊎_elim}
use Rattle.std.specs.Prelude.{IsSome}
use Rattle.std.specs.List.{find, slice_get}
use Rattle.std.proofs.lemmas.Bool.{false≢true}
use Rattle.std.proofs.lemmas.List.{length-append}
use Rattle.std.proofs.lemmas.Option.{slice_get-get_or}
use Rattle.lsdb.specs.declared.section.Section.TheVariants.{Area}
use Rattle.lsdb.specs.Lists.{AreaHead, IsDatabase, Lists, SectionLsas, areas_of, is_section}
use Rattle.lsdb.specs.Slots.{Slots, lists_of}
use Rattle.lsdb.proofs.AreaLemmas.{area_named}
use Rattle.area_graph.specs.declared.fault.GraphFault.{GraphFault}
use Rattle.area_graph.specs.declared.fault.GraphFault.TheVariants.{NoArea, OutOfMemory}
use Rattle.area_graph.specs.Graphs.{FaultMeans, IsGraphOf}
use Rattle.area_graph.specs.Topology.{Topology}
use Rattle.area_graph.proofs.MemberLemmas.{Some-same}
use Rattle.routing_table.specs.AreaLsas.{lsas_in}
use Rattle.hop_ends.specs.Owners.{AreAreaGraphs}

-- an item of a list with one more at the end
pushed_at : {X : Type 0} (xs : List X) (x y : X) (k : ℕ) → slice_get (xs ++ x ∷ []) k ≡ Some y
    → (slice_get xs k ≡ Some y) ⊎ ((k ≡ length xs) × (x ≡ y))
pushed_at [] x y zero at = inr (refl, Some-same at)
pushed_at [] x y (suc k) at = absurd (cc)
pushed_at (z ∷ xs) x y zero at = inl at
pushed_at (z ∷ xs) x y (suc k) at = ⊎_elim (λ l. inl l) (λ r. inr (ap (λ (n : ℕ). suc n) r.0, r.1)) (pushed_at xs x y k at)

-- these are the graphs of the first i areas
pub record AreFirst (db : Lists) (i : ℕ) (graphs : List Topology) : Type 0 where
  pub sized : length graphs ≡ i
  pub each : (k : ℕ) (area : AreaHead) (graph : Topology) → slice_get (areas_of db) k ≡ Some area → slice_get graphs k ≡ Some graph
      → IsGraphOf (lsas_in db area) graph

module _ (db : Lists) where
  pub first_none : AreFirst db 0 []
  first_none = record { sized = refl; each = λ k area graph at_area at_graph. absurd (cc) }

  pub first_more : (i : ℕ) (graphs : List Topology) (g : Topology) → AreFirst db i graphs
      → ((area : AreaHead) → slice_get (areas_of db) i ≡ Some area → IsGraphOf (lsas_in db area) g) → AreFirst db (i + 1) (graphs ++ g ∷ [])
  first_more i graphs g first here = record {
    sized = length-append graphs (g ∷ []) ∙ ap (λ (n : ℕ). n + 1) first.sized;
    each = λ k area graph at_area at_graph.
        ⊎_elim
        (λ l. first.each k area graph at_area l)
        (λ r. subst (λ (x : Topology). IsGraphOf (lsas_in db area) x) r.1
        (here area (subst (λ (n : ℕ). slice_get (areas_of db) n ≡ Some area) (r.0 ∙ first.sized) at_area)))
        (pushed_at graphs g graph k at_graph);
  }

  pub first_all : (i : ℕ) (graphs : List Topology) → AreFirst db i graphs → i ≡ length (areas_of db) → AreAreaGraphs db graphs
  first_all i graphs first is = record { sized = first.sized ∙ is; each = first.each }

  abbrev no_area : AreaHead
  no_area = record { id = 0; is_stub = false }

  -- a graph, and the area that it is of
  pub record IsGraphAt (i : ℕ) (graph : Topology) : Type 0 where
    pub area : AreaHead
    pub at : slice_get (areas_of db) i ≡ Some area
    pub graph_of : IsGraphOf (lsas_in db area) graph

  pub graph_at : (graphs : List Topology) → AreAreaGraphs db graphs → (i : ℕ) → i < length graphs → (g : Topology) → g ≡ get_or graphs i g → IsGraphAt i g
  graph_at graphs are i lt g is =
      let sized : length graphs ≡ length (areas_of db) = are.sized in
      let at : slice_get (areas_of db) i ≡ Some (get_or (areas_of db) i no_area) = slice_get-get_or (areas_of db) i no_area (omega arith) in
      let there : slice_get graphs i ≡ Some g = slice_get-get_or graphs i g lt ∙ ap (λ (x : Topology). Some x) (sym is) in record {
        area = get_or (areas_of db) i no_area;
        at = at;
        graph_of = are.each i (get_or (areas_of db) i no_area) g at there;
      }

-- an area of a database is there
pub not_absent : (d : Slots) (i : ℕ) (area : AreaHead) → IsDatabase (lists_of d) → slice_get (areas_of (lists_of d)) i ≡ Some area
    → (fault : GraphFault) → fault ≡ NoArea → FaultMeans (find (is_section (Area (record { 0 = area.id }))) (lists_of d)) fault → ⊥
not_absent d i area sound at fault is means =
    let named = area_named d i area sound at in
    by (find (is_section (Area (record { 0 = area.id }))) (lists_of d)) (subst (λ (o : Option SectionLsas). IsSome o) named.same named.exists) means
  where
    by : (o : Option SectionLsas) → IsSome o → FaultMeans o fault → ⊥
    by None some m = false≢true some
    by (Some section) some m = let clash : NoArea ≡ OutOfMemory = sym is ∙ m in absurd (cc)
