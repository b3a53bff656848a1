-- Sets of routers, asked for one.
use Rattle.std.proofs.Common.{◌≡◌, Bool, true, false, cond, List, [], refl, sym, ap, ◌∙◌, ◌⊎◌, inl, inr, ⊎_elim}
use Rattle.std.specs.Prelude.{◌||◌}
use Rattle.std.specs.BTreeMap.{is_at}
use Rattle.std.specs.BTreeSet.{BTreeSet, contains, Updates}
use Rattle.std.specs.Cmp.{Equal-is, unsigned_ties}
use Rattle.std.specs.List.{Contains, list_any}
use Rattle.std.proofs.lemmas.Bool.{eq-eqb, false≢true, or_cases, or_left, or_right}
use Rattle.lsa_codec.specs.Order.{router_cmp}
use Rattle.lsa_codec.specs.declared.address.RouterId.{RouterId}
use Rattle.lsa_codec.proofs.OrderLemmas.{router_exact}
use Rattle.area_graph.proofs.MemberLemmas.{Contains-from_In, In, In-from_Contains, In-list_any, list_any-In}
use Rattle.microloops.specs.steps.Groups.{Has, Lacks}

pub either : (b : Bool) → (b ≡ true) ⊎ (b ≡ false)
either true = inl refl
either false = inr refl

pub has_or : (set : BTreeSet RouterId) (v : RouterId) → Has set v ⊎ Lacks set v
has_or set v = either (contains router_cmp set v)

pub not_both : (set : BTreeSet RouterId) (v : RouterId) → Lacks set v → Has set v → ⊥
not_both set v l h = false≢true (sym l ∙ h)

pub lacks_from : (set : BTreeSet RouterId) (v : RouterId) → (Has set v → ⊥) → Lacks set v
lacks_from set v never = ⊎_elim (λ h. absurd (never h)) (λ l. l) (has_or set v)

pub at_same : (k v : RouterId) → is_at (router_cmp k) v ≡ true → k ≡ v
at_same k v h = router_exact k v ((Equal-is (router_cmp k v)).0 h)

pub at_self : (k : RouterId) → is_at (router_cmp k) k ≡ true
at_self k = sym (unsigned_ties k.0 k.0) ∙ eq-eqb k.0 k.0 refl

-- ---- no router, one router

pub lacks_all : (set : BTreeSet RouterId) → set.keys ≡ [] → (v : RouterId) → Lacks set v
lacks_all set none v = ap (λ (ks : List RouterId). list_any (is_at (router_cmp v)) ks) none

-- ---- members

pub has_member : (set : BTreeSet RouterId) (v : RouterId) → Contains set.keys v → Has set v
has_member set v c = In-list_any (is_at (router_cmp v)) set.keys v (In-from_Contains set.keys v c) (at_self v)

pub member_has : (set : BTreeSet RouterId) (v : RouterId) → Has set v → Contains set.keys v
member_has set v h =
    let f = list_any-In (is_at (router_cmp v)) set.keys h in
    Contains-from_In set.keys v (in_same f.0 f.1 (at_same v f.0 f.2))
  where
    in_same : (x : RouterId) → In set.keys x → v ≡ x → In set.keys v
    in_same x i p = rw p i

-- ---- one router more or fewer

module _ (old new : BTreeSet RouterId) (k : RouterId) where
  pub more_has : Updates router_cmp old new k true → (v : RouterId) → Has new v → Has old v ⊎ (k ≡ v)
  more_has u v h = by (is_at (router_cmp k) v) refl (sym (u.0 v) ∙ h)
    where
      by : (b : Bool) → is_at (router_cmp k) v ≡ b → cond b true (contains router_cmp old v) ≡ true → Has old v ⊎ (k ≡ v)
      by true is e = inr (at_same k v is)
      by false is e = inl e

  pub has_more : Updates router_cmp old new k true → (v : RouterId) → Has old v → Has new v
  has_more u v h = by (is_at (router_cmp k) v) (u.0 v)
    where
      by : (b : Bool) → contains router_cmp new v ≡ cond b true (contains router_cmp old v) → Has new v
      by true e = e
      by false e = e ∙ h

  pub has_new : Updates router_cmp old new k true → Has new k
  has_new u = u.1

  pub fewer_has : Updates router_cmp old new k false → (v : RouterId) → Has new v → Has old v
  fewer_has u v h = by (is_at (router_cmp k) v) (sym (u.0 v) ∙ h)
    where
      by : (b : Bool) → cond b false (contains router_cmp old v) ≡ true → Has old v
      by true e = absurd (false≢true e)
      by false e = e

  pub has_fewer : Updates router_cmp old new k false → (v : RouterId) → Has old v → Has new v ⊎ (k ≡ v)
  has_fewer u v h = by (is_at (router_cmp k) v) refl (u.0 v)
    where
      by : (b : Bool) → is_at (router_cmp k) v ≡ b → contains router_cmp new v ≡ cond b false (contains router_cmp old v) → Has new v ⊎ (k ≡ v)
      by true is e = inr (at_same k v is)
      by false is e = inl (e ∙ h)

  pub lacks_new : Updates router_cmp old new k false → Lacks new k
  lacks_new u = u.1

-- ---- two sets as one

module _ (a b c : BTreeSet RouterId) (v : RouterId) (is : contains router_cmp c v ≡ (contains router_cmp a v || contains router_cmp b v)) where
  pub from_either : Has c v → Has a v ⊎ Has b v
  from_either h = or_cases (contains router_cmp a v) (contains router_cmp b v) (sym is ∙ h)

  pub to_left : Has a v → Has c v
  to_left h = is ∙ or_left (contains router_cmp a v) (contains router_cmp b v) h

  pub to_right : Has b v → Has c v
  to_right h = is ∙ or_right (contains router_cmp a v) (contains router_cmp b v) h
