-- The table from its parts.
use Rattle.std.proofs.Common.{◌≡◌, ℕ, true, List, [], ◌∷◌, ◌++◌, length, map, take, Option, Some, Result, Ok, Err, IfOk, IfErr, OnErr, OnOk, inl, inr, zero, suc}
use Rattle.std.proofs.Common.{refl, sym, ap, ◌∙◌, subst, arith}
use Rattle.std.specs.List.{slice_get}
use Rattle.std.proofs.lemmas.List.{length-map, take-append-le, take_all}
use Rattle.lsa_codec.specs.declared.address.RouterId.{RouterId}
use Rattle.lsdb.specs.Lists.{AreaHead, Lists, areas_of}
use Rattle.area_graph.proofs.MemberLemmas.{In, In-filter}
use Rattle.area_routes.specs.Values.{AreaResultValue, InterValue}
use Rattle.best_ways.specs.Values.{RouteValue}
use Rattle.area_routes.specs.Intra.{intra_of, without_offers}
use Rattle.area_routes.specs.Inter.{inter_of}
use Rattle.area_routes.specs.Attached.{attached_areas}
use Rattle.area_routes.proofs.OfferlessLemmas.{same_inter}
use Rattle.external_routes.specs.External.{externals_of}
use Rattle.routing_table.specs.declared.table.TableFault.{TableFault}
use Rattle.routing_table.specs.declared.table.TableFault.TheVariants.{NoRouter, OutOfMemory}
use Rattle.routing_table.specs.Preferring.{preferring}
use Rattle.routing_table.specs.Tables.{TableValue, results_in, routes_from, table_by, table_in, FaultMeans}
use Rattle.routing_table.proofs.Counted.{joins}

-- ---- the routes

module _ (db : Lists) (router : RouterId) (results : List AreaResultValue) where
  abbrev from_inter : List RouteValue → InterValue → List RouteValue
  from_inter intra inter = preferring (preferring intra inter.routes) (externals_of db router (preferring intra inter.routes) inter.routers)

  pub if_routes : {X E : Type 0} (items : X → List RouteValue) (intra inside external : List RouteValue) (inter : InterValue) (r : Result X E)
      → intra ≡ intra_of results → inter ≡ inter_of db router results intra → inside ≡ preferring intra inter.routes
      → external ≡ externals_of db router inside inter.routers
      → IfOk r (λ v. items v ≡ preferring inside external) → IfOk r (λ v. items v ≡ routes_from db router results)
  if_routes items intra inside external inter (Ok v) a b c d h =
      h ∙ ap (λ e. preferring inside e) d ∙ ap (λ s. preferring s (externals_of db router s inter.routers)) c ∙ ap (λ n. from_inter intra n) b
      ∙ ap (λ i. from_inter i (inter_of db router results i)) a
  if_routes items intra inside external inter (Err e) a b c d h = tt

-- the routes between areas by results whose own routes were taken out
pub inter_after : (db : Lists) (router : RouterId) (items old new now more : List AreaResultValue) (n : ℕ) (intra : List RouteValue)
    → n ≡ length items → old ≡ items → map without_offers new ≡ map without_offers old → now ≡ take n (new ++ more)
    → inter_of db router now intra ≡ inter_of db router items intra
inter_after db router items old new now more n intra size given rest after =
    let same_length : length new ≡ n =
    sym (length-map new without_offers) ∙ ap (λ (rs : List AreaResultValue). length rs) rest ∙ length-map old without_offers
    ∙ ap (λ (rs : List AreaResultValue). length rs) given ∙ sym size in
    let left : now ≡ new = after ∙ take-append-le n new more (omega arith) ∙ take_all n new (omega arith) in
    ap (λ (rs : List AreaResultValue). inter_of db router rs intra) left
    ∙ same_inter db router intra new old rest
    ∙ ap (λ (rs : List AreaResultValue). inter_of db router rs intra) given

-- ---- the table

by_areas : (db : Lists) (router : RouterId) (areas : List AreaHead) (results : List AreaResultValue) (routes : List RouteValue)
    → results ≡ results_in db router areas → (results ≡ [] → ⊥)
    → routes ≡ routes_from db router results → table_by db router areas ≡ Some (record { router = router; routes = routes })
by_areas db router [] results routes is some from = absurd (some is)
by_areas db router (area ∷ areas) results routes is some from =
    let table : List RouteValue → Option TableValue = λ l. Some (record { router = router; routes = l }) in
    ap table (sym (from ∙ ap (routes_from db router) is))

pub table_is : (db : Lists) (router : RouterId) (results : List AreaResultValue) (routes : List RouteValue)
    → results ≡ results_in db router (attached_areas db router) → (results ≡ [] → ⊥)
    → routes ≡ routes_from db router results → table_in db router ≡ Some (record { router = router; routes = routes })
unfolding table_in
table_is db router results routes = by_areas db router (attached_areas db router) results routes

-- ---- when there is none

none_by : (db : Lists) (router : RouterId) (areas : List AreaHead) → results_in db router areas ≡ [] → FaultMeans (table_by db router areas) NoRouter
none_by db router [] is = refl
none_by db router (area ∷ areas) is = cc

pub no_table : (db : Lists) (router : RouterId) (results : List AreaResultValue)
    → results ≡ results_in db router (attached_areas db router) → results ≡ [] → FaultMeans (table_in db router) NoRouter
unfolding table_in
no_table db router results is none = none_by db router (attached_areas db router) (sym is ∙ none)

some_by : (db : Lists) (router : RouterId) (areas : List AreaHead) → (areas ≡ [] → ⊥) → FaultMeans (table_by db router areas) OutOfMemory
some_by db router [] some = absurd (some refl)
some_by db router (area ∷ areas) some = refl

pub no_memory : (db : Lists) (router : RouterId) → (attached_areas db router ≡ [] → ⊥) → FaultMeans (table_in db router) OutOfMemory
unfolding table_in
no_memory db router some = some_by db router (attached_areas db router) some

pub some_results : (db : Lists) (router : RouterId) (results : List AreaResultValue)
    → results ≡ results_in db router (attached_areas db router) → (results ≡ [] → ⊥) → attached_areas db router ≡ [] → ⊥
some_results db router results is some none = some (is ∙ ap (results_in db router) none)

-- an area to which the router is attached
in_some : {X : Type 0} (xs : List X) (x : X) → In xs x → xs ≡ [] → ⊥
in_some xs x there none = subst (λ l. In l x) none there

slice_In : {X : Type 0} (xs : List X) (i : ℕ) (x : X) → slice_get xs i ≡ Some x → In xs x
slice_In [] i x here = cc
slice_In (y ∷ ys) zero x here = let is : y ≡ x = cc in inl is
slice_In (y ∷ ys) (suc i) x here = inr (slice_In ys i x here)

pub attached_somewhere : (db : Lists) (router : RouterId) (i : ℕ) (area : AreaHead) → slice_get (areas_of db) i ≡ Some area
    → joins db router area ≡ true → attached_areas db router ≡ [] → ⊥
attached_somewhere db router i area here joined =
    in_some (attached_areas db router) area (In-filter (joins db router) (areas_of db) area (slice_In (areas_of db) i area here) joined)

-- an empty list of results, and one that isn't
pub empty_list : {X : Type 0} (xs : List X) → length xs ≡ 0 → xs ≡ []
empty_list [] h = refl
empty_list (x ∷ xs) h = absurd (omega (arith, h))

pub full_list : {X : Type 0} (xs : List X) → (length xs ≡ 0 → ⊥) → xs ≡ [] → ⊥
full_list xs some none = some (ap length none)

-- what holds anyhow holds of an error
pub on_err : {T E P : Type 0} (r : Result T E) → P → OnErr r P
on_err (Ok v) p = tt
on_err (Err e) p = p

-- ---- the table in the database that a session shows

pub if_table : {X E : Type 0} (table : X → TableValue) (d s : Lists) (router : RouterId) (r : Result X E) → d ≡ s
    → IfOk r (λ v. table_in d router ≡ Some (table v)) → IfOk r (λ v. table_in s router ≡ Some (table v))
if_table table d s router (Ok v) same h = subst (λ db. table_in db router ≡ Some (table v)) same h
if_table table d s router (Err e) same h = tt

pub if_fault : {X : Type 0} (d s : Lists) (router : RouterId) (r : Result X TableFault) → d ≡ s
    → IfErr r (FaultMeans (table_in d router)) → IfErr r (FaultMeans (table_in s router))
if_fault d s router r same h = subst (λ db. IfErr r (FaultMeans (table_in db router))) same h

-- what holds anyhow holds of an answer
pub on_ok : {T E P : Type 0} (r : Result T E) → P → OnOk r P
on_ok (Ok v) p = p
on_ok (Err e) p = tt
