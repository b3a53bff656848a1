-- Stub links stay through a change of the cost of an interface.
use Rattle.std.proofs.Common.{◌≡◌, ℕ, ◌+◌, Bool, true, false, cond, List, [], ◌∷◌, ◌++◌, Option, None, Some, refl, sym, ap, ◌∙◌, subst, inl, inr, ⊎_elim}
use Rattle.std.specs.Prelude.{◌&&◌, IsPermutation, nat_eq, ◌⊎◌}
use Rattle.std.specs.List.{AllZip, filter_map}
use Rattle.std.specs.Option.{option_map, option_map_or}
use Rattle.std.proofs.lemmas.Bool.{eq-eqb}
use Rattle.lsa_codec.specs.declared.address.Addr.{Addr}
use Rattle.lsa_codec.specs.declared.link.Link.{Link}
use Rattle.lsa_codec.specs.declared.link.LinkKind.{LinkKind}
use Rattle.lsa_codec.specs.declared.link.LinkKind.TheVariants.{PointToPoint, Transit, Stub, Virtual, Other}
use Rattle.lsa_codec.specs.Prefix.{Net, is_mask, len_of_mask, masked}
use Rattle.lsa_codec.specs.Fields.{kind_of, link_state_id_of}
use Rattle.lsa_codec.specs.Links.{is_stub, links_of, stub_net}
use Rattle.area_graph.specs.declared.cost_change.CostChange.{CostChange}
use Rattle.area_graph.specs.declared.vertex.Vertex.{Vertex}
use Rattle.area_graph.specs.Vertex.{is_same}
use Rattle.area_graph.specs.Area.{is_router_lsa, used}
use Rattle.area_graph.specs.AreaEdges.{router_links, target_by, target_of}
use Rattle.area_graph.specs.CostChanges.{AreChanged, IsChanged, IsChangedLink, IsChangedLsa, changed_metric, is_over}
use Rattle.area_graph.proofs.CostChangeLemmas.{changed_used}
use Rattle.area_graph.proofs.ZipLemmas.{same-filter_map}
use Rattle.area_routes.specs.declared.stub_links.StubLink.{StubLink}
use Rattle.area_routes.specs.StubLinks.{AreStubLinksOf, stub_link, stub_links_from, stub_links_of}

module _ (change : CostChange) where
  -- a link that leads to no vertex is not over the interface
  not_over : (link : Link) → target_of link ≡ None → is_over change link ≡ false
  not_over link is = ap (λ (o : Option Vertex). option_map_or (is_same change.to) o false && nat_eq link.link_data.0 change.link_data.0) is

  -- no stub link is over the interface
  not_stub : (link : Link) → (is_over change link ≡ false) ⊎ (stub_net link ≡ None)
  not_stub link = by link.kind refl
    where
      none : (k : LinkKind) → link.kind ≡ k → is_stub k ≡ false → stub_net link ≡ None
      none k is other = ap (λ (b : Bool). cond (b && is_mask link.link_data.0) (Some (masked link.id (len_of_mask link.link_data.0))) None) (ap is_stub is ∙ other)

      by : (k : LinkKind) → link.kind ≡ k → (is_over change link ≡ false) ⊎ (stub_net link ≡ None)
      by PointToPoint is = inr (none PointToPoint is refl)
      by Transit is = inr (none Transit is refl)
      by Stub is = inl (not_over link (ap (λ (k : LinkKind). target_by k link.id) is))
      by Virtual is = inr (none Virtual is refl)
      by (Other code) is = inr (none (Other code) is refl)

  same_net : (old new : Link) → IsChangedLink change old new → stub_net new ≡ stub_net old
  same_net old new s = λ i. cond (is_stub (s.kind i) && is_mask (s.link_data i).0) (Some (masked (s.id i) (len_of_mask (s.link_data i).0))) None

  abbrev stub : ℕ → ℕ → ℕ → Net → StubLink
  stub vertex router metric net = record { net = net; metric = metric; vertex = vertex; router = record { 0 = router } }

  same_stub : (vertex : ℕ) (old new : List ℕ) → link_state_id_of new ≡ link_state_id_of old → (a b : Link) → IsChangedLink change a b
      → stub_link vertex new b ≡ stub_link vertex old a
  same_stub vertex old new id a b s = ⊎_elim
      (λ apart. (let metric : b.metric ≡ a.metric = s.metric ∙ ap (λ (t : Bool). cond t change.cost a.metric) apart in
      λ i. option_map (stub vertex (id i) (metric i)) (same_net a b s i)))
      (λ none. ap (option_map (stub vertex (link_state_id_of new) b.metric)) (same_net a b s ∙ none)
      ∙ sym (ap (option_map (stub vertex (link_state_id_of old) a.metric)) none))
      (not_stub a)

  routers_links : (lsa : List ℕ) → kind_of lsa ≡ 1 → router_links lsa ≡ links_of lsa
  routers_links lsa is = ap (λ (b : Bool). cond b (links_of lsa) []) (eq-eqb (kind_of lsa) 1 is)

  same_stubs_of : (vertex : ℕ) (old new : List ℕ) → IsChanged change old new → stub_links_of vertex new ≡ stub_links_of vertex old
  same_stubs_of vertex old new (inl p) = ap (stub_links_of vertex) p.0
  same_stubs_of vertex old new (inr s) =
      ap (filter_map (stub_link vertex new)) (routers_links new (s.is).0)
      ∙ same-filter_map (IsChangedLink change) (stub_link vertex old) (stub_link vertex new) (same_stub vertex old new ((s.is).1 ∙ sym (s.was).1))
      (links_of old) (links_of new) s.links
      ∙ ap (filter_map (stub_link vertex old)) (sym (routers_links old (s.was).0))

  same_stubs_from : (vertex : ℕ) (lsas others : List (List ℕ)) → AreChanged change lsas others → stub_links_from vertex others ≡ stub_links_from vertex lsas
  unfolding stub_links_from
  same_stubs_from vertex [] [] zip = refl
  same_stubs_from vertex [] (y ∷ ys) zip = absurd zip
  same_stubs_from vertex (x ∷ xs) [] zip = absurd zip
  same_stubs_from vertex (x ∷ xs) (y ∷ ys) zip = λ i. same_stubs_of vertex x y zip.0 i ++ same_stubs_from (vertex + 1) xs ys zip.1 i

  pub stubs_stay : (lsas others : List (List ℕ)) (links : List StubLink) → AreChanged change lsas others → AreStubLinksOf lsas links → AreStubLinksOf others links
  stubs_stay lsas others links changed are =
      subst (λ (stubs : List StubLink). IsPermutation stubs links)
      (sym (same_stubs_from 0 (used lsas) (used others) (changed_used change lsas others changed))) are
