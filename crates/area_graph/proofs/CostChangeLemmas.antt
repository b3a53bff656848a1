-- Changes of the cost of one interface, for callers' proofs: one LSA of an area that is changed.
use Rattle.std.proofs.Common.{◌≡◌, ◌≢◌, ℕ, suc, ◌+◌, ◌-◌, Bool, true, false, List, [], ◌∷◌, ◌++◌, length, get_or, refl, sym, ap, ◌∙◌, subst, arith, inl, inr}
use Rattle.std.specs.Prelude.{AllPairs}
use Rattle.std.proofs.lemmas.List.{get_or-append_right, get_or_append_left, get_or_default, length-append}
use Rattle.std.proofs.lemmas.List.Elements.{All-contains}
use Rattle.lsa_codec.specs.Fields.{kind_of, link_state_id_of, advertising_router_of}
use Rattle.lsa_codec.specs.Key.{key_of}
use Rattle.lsa_codec.specs.Accepted.{IsAccepted}
use Rattle.area_graph.specs.declared.cost_change.CostChange.{CostChange}
use Rattle.area_graph.specs.declared.vertex.Vertex.TheVariants.{Router}
use Rattle.area_graph.specs.Vertex.{is_same}
use Rattle.area_graph.specs.Area.{vertex_of}
use Rattle.area_graph.specs.CostChanges.{AreChanged, IsChanged, IsChangedLsa}
use Rattle.area_graph.specs.Graphs.{AreOfArea}
use Rattle.area_graph.proofs.AllPathsLemmas.{same_from_is_same}
use Rattle.area_graph.proofs.AreaLemmas.{router_lsa_of}
use Rattle.area_graph.proofs.MemberLemmas.{Contains-from_In, In, In-left, In-right}
use Rattle.area_graph.proofs.UsedLemmas.{origin_of}
use Rattle.area_graph.proofs.ZipLemmas.{zip-append}
pub use Rattle.area_graph.proofs.ChangedEdges.{changed_used}

-- members on both sides of one differ from it
module _ {X : Type 0} (R : X → X → Type 0) (front : List X) (mid : X) (back : List X) (pairs : AllPairs R (front ++ mid ∷ back)) where
  at_mid : get_or (front ++ mid ∷ back) (length front) mid ≡ mid
  at_mid =
      let none : length front - length front ≡ 0 = omega arith in
      get_or-append_right front (mid ∷ back) (length front) (length front) mid refl (omega arith) ∙ ap (λ (k : ℕ). get_or (mid ∷ back) k mid) none

  whole : length (front ++ mid ∷ back) ≡ length front + (1 + length back)
  whole = let one : length (mid ∷ back) ≡ 1 + length back = omega arith in length-append front (mid ∷ back) ∙ ap (λ (n : ℕ). length front + n) one

  before_mid : (x : X) → In front x → R x mid
  before_mid x i =
      let c = Contains-from_In front x i in
      let at : get_or (front ++ mid ∷ back) c.0 mid ≡ x =
      get_or_append_left front (mid ∷ back) mid c.0 c.1 ∙ get_or_default front c.0 mid x c.1 ∙ c.2 in
      subst (λ (y : X). R y mid) at (subst (λ (y : X). R (get_or (front ++ mid ∷ back) c.0 mid) y) at_mid
      (pairs c.0 (length front) mid c.1 (omega (arith, whole))))

  after_mid : (x : X) → In back x → R mid x
  after_mid x i =
      let c = Contains-from_In back x i in
      let next : length front + suc c.0 - length front ≡ suc c.0 = omega arith in
      let at : get_or (front ++ mid ∷ back) (length front + suc c.0) mid ≡ x =
      get_or-append_right front (mid ∷ back) (length front) (length front + suc c.0) mid refl (omega arith)
      ∙ ap (λ (k : ℕ). get_or (mid ∷ back) k mid) next ∙ get_or_default back c.0 mid x c.1 ∙ c.2 in
      subst (λ (y : X). R mid y) at (subst (λ (y : X). R y (get_or (front ++ mid ∷ back) (length front + suc c.0) mid)) at_mid
      (pairs (length front) (length front + suc c.0) mid (omega arith) (omega (arith, whole, c.1))))

module _ (change : CostChange) (before after : List ℕ) (one : IsChangedLsa change before after) (accepted : IsAccepted before) where
  -- a router-LSA of the router has the key of the one that is changed
  other_vertex : (x : List ℕ) → IsAccepted x → key_of x ≢ key_of before → is_same (vertex_of x) (Router change.from) ≡ false
  other_vertex x is_accepted other = by (is_same (vertex_of x) (Router change.from)) refl
    where
      by : (b : Bool) → is_same (vertex_of x) (Router change.from) ≡ b → b ≡ false
      by false is = refl
      by true is =
          let of = router_lsa_of x change.from (same_from_is_same (vertex_of x) (Router change.from) is) in
          let kind : kind_of x ≡ kind_of before = of.0 ∙ sym (one.was).0 in
          let id : link_state_id_of x ≡ link_state_id_of before = of.1 ∙ sym (one.was).1 in
          let adv : advertising_router_of x ≡ advertising_router_of before = sym (origin_of x is_accepted of.0) ∙ id ∙ origin_of before accepted (one.was).0 in
          absurd (other (λ i. record { kind = kind i; id = record { 0 = id i }; adv = record { 0 = adv i } }))

  same_zip : (xs : List (List ℕ)) → ((x : List ℕ) → In xs x → is_same (vertex_of x) (Router change.from) ≡ false) → AreChanged change xs xs
  same_zip [] others = tt
  same_zip (x ∷ xs) others = (inl (refl, others x (inl refl)), same_zip xs (λ y i. others y (inr i)))

  pub one_changed : (front back : List (List ℕ)) → AreOfArea (front ++ before ∷ back) → AreChanged change (front ++ before ∷ back) (front ++ after ∷ back)
  one_changed front back are =
      zip-append (IsChanged change) front (before ∷ back) front (after ∷ back)
      (same_zip front (λ x i. other_vertex x (all x (In-left front (before ∷ back) x i))
      (before_mid (λ a b. key_of a ≢ key_of b) front before back are.distinct x i))) (
        inr one,
        same_zip back (λ x i. other_vertex x (all x (In-right front (before ∷ back) x (inr i)))
            (λ same. after_mid (λ a b. key_of a ≢ key_of b) front before back are.distinct x i (sym same))),
      )
    where
      all : (x : List ℕ) → In (front ++ before ∷ back) x → IsAccepted x
      all x i = All-contains IsAccepted (front ++ before ∷ back) x are.accepted (Contains-from_In (front ++ before ∷ back) x i)
