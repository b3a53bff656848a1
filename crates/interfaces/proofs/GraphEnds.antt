-- A point-to-point link has far ends where the neighbor's LSA in use links back.
use Rattle.std.proofs.Common.{◌≡◌, ◌≢◌, ℕ, true, false, cond, List, [], ◌∷◌, Option, Some, None, refl, sym, ap, ◌∙◌, subst, inl, inr, eqb, eq-eqb, eqb-true}
use Rattle.std.specs.Prelude.{◌&&◌, ◌||◌, ◌↔◌, not}
use Rattle.std.specs.List.{AllPairs, find, list_any}
use Rattle.std.specs.Option.{option_map_or}
use Rattle.std.proofs.lemmas.Bool.{and_from, and_parts}
use Rattle.std.proofs.lemmas.List.Elements.{All-contains}
use Rattle.lsa_codec.specs.Accepted.{IsAccepted}
use Rattle.lsa_codec.specs.declared.address.AreaId.{AreaId}
use Rattle.lsa_codec.specs.declared.address.RouterId.{RouterId}
use Rattle.lsa_codec.specs.declared.key.Key.{Key}
use Rattle.lsa_codec.specs.declared.link.Link.{Link}
use Rattle.lsa_codec.specs.declared.link.LinkKind.{LinkKind}
use Rattle.lsa_codec.specs.declared.link.LinkKind.TheVariants.{PointToPoint, Transit, Stub, Virtual, Other}
use Rattle.lsa_codec.specs.Fields.{kind_of, link_state_id_of, advertising_router_of}
use Rattle.lsa_codec.specs.Key.{key_of, router_key}
use Rattle.lsa_codec.specs.Links.{is_point_to_point, links_of}
use Rattle.lsa_codec.specs.LsTypes.{router_lsa}
use Rattle.lsa_codec.specs.Making.{leads_to}
use Rattle.lsdb.specs.declared.section.Section.TheVariants.{Area}
use Rattle.lsdb.specs.Lists.{IsDatabase, Lists, has_key, lsas_of}
use Rattle.lsdb.proofs.KeyLemmas.{other_key, own_key, same_key_true}
use Rattle.lsdb.proofs.ListLemmas.{pairs_head, pairs_tail}
use Rattle.area_graph.specs.declared.vertex.Vertex.TheVariants.{Router}
use Rattle.area_graph.specs.Area.{is_live, is_network_lsa, is_outranked_by, is_router_lsa, is_vertex_lsa, outranks, used, vertex_lsas}
use Rattle.area_graph.specs.Joins.{HasLinkTo, IsLinkTo}
use Rattle.area_graph.proofs.GraphLemmas.{are_of_area}
use Rattle.area_graph.proofs.MemberLemmas.{In, In-from_Contains, Contains-from_In, In-filter}
use Rattle.area_graph.proofs.UsedLemmas.{origin_of, used_In}
use Rattle.interfaces.specs.declared.interface.Interface.{Interface}
use Rattle.interfaces.specs.Interfaces.{interfaces_from, interfaces_of, stub_after}
use Rattle.interfaces.specs.Routers.{interfaces_in, live_or_none, router_lsa_of}
use Rattle.interfaces.specs.FarEnds.{far_ends, far_ends_in}
use Rattle.interfaces.proofs.FarEnds.{end_back, some_end}
use Rattle.interfaces.proofs.RouterLsas.{find-In, kind_by_key, live-Some}

-- ---- links and interfaces

link_in : (links : List Link) (link : Link) → In links link → (x : Interface) × In (interfaces_from links) x × (x.link ≡ link)
unfolding interfaces_from
link_in [] link i = absurd i
link_in (l ∷ links) link (inl p) = (record { link = l; stub = stub_after l links }, inl refl, p)
link_in (l ∷ links) link (inr i) = let r = link_in links link i in (r.0, inr r.1, r.2)

in_link : (links : List Link) (x : Interface) → In (interfaces_from links) x → In links x.link
unfolding interfaces_from
in_link [] x i = absurd i
in_link (l ∷ links) x (inl p) = inl (ap (λ (y : Interface). y.link) p)
in_link (l ∷ links) x (inr i) = inr (in_link links x i)

point_to_point : (kind : LinkKind) → is_point_to_point kind ≡ true → kind ≡ PointToPoint
point_to_point PointToPoint e = refl
point_to_point Transit e = absurd cc
point_to_point Stub e = absurd cc
point_to_point Virtual e = absurd cc
point_to_point (Other code) e = absurd cc

link_to : (router : RouterId) (link : Link) → leads_to router link ≡ true → IsLinkTo (Router router) link
link_to router link leads =
    let parts = and_parts (is_point_to_point link.kind) (eqb link.id.0 router.0) leads in
    (point_to_point link.kind parts.0, eqb-true link.id.0 router.0 parts.1)

leads : (router : RouterId) (link : Link) → IsLinkTo (Router router) link → leads_to router link ≡ true
leads router link to =
    and_from (is_point_to_point link.kind) (eqb link.id.0 router.0) (ap is_point_to_point to.0) (eq-eqb link.id.0 router.0 to.1)

-- ---- router-LSAs in use

none_outranks : (lsa : List ℕ) → kind_of lsa ≡ router_lsa → (others : List (List ℕ)) → list_any (is_outranked_by lsa) others ≡ false
none_outranks lsa kind [] = refl
none_outranks lsa kind (other ∷ others) =
    ap (λ k. (eqb k 2 && outranks (link_state_id_of lsa) (advertising_router_of lsa) other) || list_any (is_outranked_by lsa) others) kind
    ∙ none_outranks lsa kind others

used_router : (lsas : List (List ℕ)) (router : RouterId) (lsa : List ℕ) → find (has_key (router_key router)) lsas ≡ Some lsa → is_live lsa ≡ true
    → In (used lsas) lsa
unfolding used
used_router lsas router lsa found live =
    let kind = kind_by_key router lsas lsa found in
    let vertex : is_vertex_lsa lsa ≡ true =
    and_from (is_live lsa) (is_router_lsa lsa || is_network_lsa lsa) live (ap (λ k. eqb k 1 || eqb k 2) kind) in
    In-filter (λ x. not (list_any (is_outranked_by x) (vertex_lsas lsas))) (vertex_lsas lsas) lsa
    (In-filter is_vertex_lsa lsas lsa (find-In (has_key (router_key router)) lsas lsa found).0 vertex)
    (ap not (none_outranks lsa kind (vertex_lsas lsas)))

-- the only LSA of a key is found by it
find_one : (key : Key) (lsas : List (List ℕ)) → AllPairs (λ a b. key_of a ≢ key_of b) lsas → (lsa : List ℕ) → In lsas lsa → key_of lsa ≡ key
    → find (has_key key) lsas ≡ Some lsa
find_one key [] pairs lsa i is = absurd i
find_one key (x ∷ xs) pairs lsa (inl p) is =
    ap (λ b. cond b (Some x) (find (has_key key) xs)) (own_key key x (ap key_of p ∙ is)) ∙ ap Some p
find_one key (x ∷ xs) pairs lsa (inr i) is =
    let apart = All-contains (λ b. key_of x ≢ key_of b) xs lsa (pairs_head (λ a b. key_of a ≢ key_of b) x xs pairs) (Contains-from_In xs lsa i) in
    ap (λ b. cond b (Some x) (find (has_key key) xs)) (other_key key x (λ e. apart (e ∙ sym is)))
    ∙ find_one key xs (pairs_tail (λ a b. key_of a ≢ key_of b) x xs pairs) lsa i is

-- ---- both ways

module _ (db : Lists) (area : AreaId) (router neighbor : RouterId) where
  abbrev lsas : List (List ℕ)
  lsas = lsas_of (Area area) db

  -- a link back among the interfaces of the neighbor
  has_link : (x : Interface) → In (interfaces_in db area neighbor) x → leads_to router x.link ≡ true → HasLinkTo (used lsas) neighbor (Router router)
  has_link x there leads = by (router_lsa_of db area neighbor) refl there
    where
      by : (o : Option (List ℕ)) → router_lsa_of db area neighbor ≡ o → In (option_map_or interfaces_of o []) x
          → HasLinkTo (used lsas) neighbor (Router router)
      by None is i = absurd i
      by (Some lsa) is i =
          let found = live-Some (find (has_key (router_key neighbor)) lsas) lsa is in
          let key = same_key_true (key_of lsa) (router_key neighbor) (find-In (has_key (router_key neighbor)) lsas lsa found.0).1 in (
            x.link.metric,
            x.link.link_data,
            (
              lsa,
              x.link,
              Contains-from_In (used lsas) lsa (used_router lsas neighbor lsa found.0 found.1),
              (ap (λ (k : Key). k.kind) key, ap (λ (k : Key). k.id.0) key),
              Contains-from_In (links_of lsa) x.link (in_link (links_of lsa) x i),
              link_to router x.link leads,
              refl,
              refl,
            ),
          )

  -- the interface of a link back
  record LinksBack : Type 0 where
    interface : Interface
    there : In (interfaces_in db area neighbor) interface
    leads_back : leads_to router interface.link ≡ true

  links_back : IsDatabase db → HasLinkTo (used lsas) neighbor (Router router) → LinksBack
  links_back sound (cost, link_data, (lsa, link, there, of, l, to, m, d)) =
      let are = are_of_area area db sound in
      let in_use = used_In lsas lsa (In-from_Contains (used lsas) lsa there) in
      let accepted = All-contains IsAccepted lsas lsa are.accepted (Contains-from_In lsas lsa in_use.0) in
      let key : key_of lsa ≡ router_key neighbor =
      let ids : link_state_id_of lsa ≡ neighbor.0 = of.1 in
      let advs : advertising_router_of lsa ≡ neighbor.0 = sym (origin_of lsa accepted of.0) ∙ of.1 in
      λ i. record { kind = of.0 i; id = record { 0 = ids i }; adv = record { 0 = advs i } } in
      let live = (and_parts (is_live lsa) (is_router_lsa lsa || is_network_lsa lsa) in_use.1).0 in
      let own : router_lsa_of db area neighbor ≡ Some lsa =
      ap live_or_none (find_one (router_key neighbor) lsas are.distinct lsa in_use.0 key) ∙ ap (λ b. cond b (Some lsa) None) live in
      let r = link_in (links_of lsa) link (In-from_Contains (links_of lsa) link l) in
      record {
        interface = r.0;
        there = subst (λ (o : Option (List ℕ)). In (option_map_or interfaces_of o []) r.0) (sym own) r.1;
        leads_back = ap (leads_to router) r.2 ∙ leads router link to;
      }

member_of : (xs : List Interface) → xs ≢ [] → (x : Interface) × In xs x
member_of [] some = absurd (some refl)
member_of (x ∷ xs) some = (x, inl refl)

pub ends_are_edges : (db : Lists) (area : AreaId) (router : RouterId) (own : Interface) → IsDatabase db → own.link.kind ≡ PointToPoint
    → (far_ends_in db area router own ≢ []) ↔ HasLinkTo (used (lsas_of (Area area) db)) (record { 0 = own.link.id.0 }) (Router router)
ends_are_edges db area router own sound kind =
    let neighbor : RouterId = record { 0 = own.link.id.0 } in
    let theirs = interfaces_in db area neighbor in (
      λ some.
          let one = member_of (far_ends router own theirs) some in
          let back = end_back router own theirs one.0 one.1 in
          has_link db area router neighbor one.0 (In-from_Contains theirs one.0 back.0) back.1,
      λ has.
          let back = links_back db area router neighbor sound has in
          some_end router own theirs back.interface kind (Contains-from_In theirs back.interface back.there) back.leads_back,
    )
