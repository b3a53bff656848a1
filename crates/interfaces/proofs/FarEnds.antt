-- Which interfaces are far ends.
use Rattle.std.proofs.Common.{◌≡◌, ◌≢◌, Bool, true, false, cond, List, [], ◌∷◌, get_or, refl, sym, ap, ◌∙◌, subst, ◌⊎◌, inl, inr, ⊎_elim}
use Rattle.std.specs.List.{All, Contains, filter}
use Rattle.std.proofs.lemmas.List.Elements.{Contains-get_or}
use Rattle.lsa_codec.specs.declared.address.RouterId.{RouterId}
use Rattle.lsa_codec.specs.declared.link.LinkKind.{LinkKind}
use Rattle.lsa_codec.specs.declared.link.LinkKind.TheVariants.{PointToPoint, Transit, Stub, Virtual, Other}
use Rattle.lsa_codec.specs.Links.{is_point_to_point}
use Rattle.lsa_codec.specs.Making.{leads_to}
use Rattle.area_graph.proofs.MemberLemmas.{In, In-from_Contains, Contains-from_In, In-filter, filter-In}
use Rattle.interfaces.specs.declared.interface.Interface.{Interface}
use Rattle.interfaces.specs.FarEnds.{face_each_other, far_ends, links_back, or_else}

-- what holds of each member of a list holds of all
all_from : (P : Interface → Type 0) (xs : List Interface) → ((x : Interface) → In xs x → P x) → All P xs
all_from P xs each k d below = each (get_or xs k d) (In-from_Contains xs (get_or xs k d) (Contains-get_or xs k d below))

-- ---- the first list, or the second

or_else-In : (xs ys : List Interface) (x : Interface) → In (or_else xs ys) x → In xs x ⊎ In ys x
or_else-In [] ys x i = inr i
or_else-In (y ∷ xs) ys x i = inl i

or_else-first : (xs ys : List Interface) (x : Interface) → In xs x → or_else xs ys ≡ xs
or_else-first [] ys x i = absurd i
or_else-first (y ∷ xs) ys x i = refl

or_else-nil : (xs ys : List Interface) → or_else xs ys ≡ [] → ys ≡ []
or_else-nil [] ys e = e
or_else-nil (y ∷ xs) ys e = absurd cc

not_point_to_point : (kind : LinkKind) → kind ≢ PointToPoint → is_point_to_point kind ≡ false
not_point_to_point PointToPoint other = absurd (other refl)
not_point_to_point Transit other = refl
not_point_to_point Stub other = refl
not_point_to_point Virtual other = refl
not_point_to_point (Other code) other = refl

-- ---- of one interface

module _ (router : RouterId) (own : Interface) (theirs : List Interface) where
  abbrev back : List Interface
  back = links_back router theirs

  abbrev face : List Interface
  face = filter (face_each_other own) back

  ends : own.link.kind ≡ PointToPoint → far_ends router own theirs ≡ or_else face back
  ends kind = ap (λ k. cond (is_point_to_point k) (or_else face back) []) kind

  pub no_ends : own.link.kind ≢ PointToPoint → far_ends router own theirs ≡ []
  no_ends other = ap (λ b. cond b (or_else face back) []) (not_point_to_point own.link.kind other)

  in_back : (x : Interface) → Contains theirs x → leads_to router x.link ≡ true → In back x
  in_back x there leads = In-filter (λ y. leads_to router y.link) theirs x (In-from_Contains theirs x there) leads

  pub end_back : (x : Interface) → In (far_ends router own theirs) x → Contains theirs x × (leads_to router x.link ≡ true)
  end_back x i = by (is_point_to_point own.link.kind) i
    where
      from_back : In back x → Contains theirs x × (leads_to router x.link ≡ true)
      from_back h = let r = filter-In (λ y. leads_to router y.link) theirs x h in (Contains-from_In theirs x r.0, r.1)

      by : (b : Bool) → In (cond b (or_else face back) []) x → Contains theirs x × (leads_to router x.link ≡ true)
      by true h = ⊎_elim (λ f. from_back (filter-In (face_each_other own) back x f).0) from_back (or_else-In face back x h)
      by false h = absurd h

  pub ends_back : All (λ x. Contains theirs x × (leads_to router x.link ≡ true)) (far_ends router own theirs)
  ends_back = all_from (λ x. Contains theirs x × (leads_to router x.link ≡ true)) (far_ends router own theirs) end_back

  pub some_end : (x : Interface) → own.link.kind ≡ PointToPoint → Contains theirs x → leads_to router x.link ≡ true
      → far_ends router own theirs ≢ []
  some_end x kind there leads none =
      subst (λ (ys : List Interface). In ys x) (or_else-nil face back (sym (ends kind) ∙ none)) (in_back x there leads)

  pub ends_face : (x : Interface) → own.link.kind ≡ PointToPoint → Contains theirs x → leads_to router x.link ≡ true
      → face_each_other own x ≡ true
      → Contains (far_ends router own theirs) x × All (λ y. face_each_other own y ≡ true) (far_ends router own theirs)
  ends_face x kind there leads faces =
      let facing : In face x = In-filter (face_each_other own) back x (in_back x there leads) faces in
      let same : far_ends router own theirs ≡ face = ends kind ∙ or_else-first face back x facing in (
        Contains-from_In (far_ends router own theirs) x (subst (λ (ys : List Interface). In ys x) (sym same) facing),
        subst (λ (ys : List Interface). All (λ y. face_each_other own y ≡ true) ys) (sym same)
            (all_from (λ y. face_each_other own y ≡ true) face (λ y h. (filter-In (face_each_other own) back y h).1)),
      )
