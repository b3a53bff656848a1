-- What tests answer.
use Rattle.std.proofs.Common.{◌≡◌, ◌==◌, ◌↔◌, ℕ, Bool, true, false, eqb, not, List, [], ◌∷◌, length, refl, sym, ap, subst, ◌∙◌}
use Rattle.std.specs.List.{Contains, list_any}
use Rattle.std.proofs.Math.Dec.{eqb-suc-zero}
use Rattle.std.proofs.lemmas.Bool.{eq-eqb, eqb-true, false≢true}
use Rattle.lsa_codec.specs.declared.address.RouterId.{RouterId}
use Rattle.area_graph.proofs.MemberLemmas.{Contains-from_In, In-from_Contains, In-list_any, list_any-In}
use Rattle.forwarding.specs.Walks.{AreReached, Reaches}
use Rattle.route_report.specs.Paths.{is_some_loop}

-- a test that decides P, the other way
pub decides_not : {P : Type 0} (b : Bool) → (b ≡ true) ↔ P → (not b ≡ true) ↔ (¬ P)
decides_not true is = (λ no. absurd (false≢true no), λ no. absurd (no (is.0 refl)))
decides_not false is = (λ _ p. false≢true (is.1 p), λ _. refl)

-- there are loops where the list of them is not empty
pub some_loop : (loops : List (List RouterId)) (b : Bool) → b ≡ (length loops == 0) → not b ≡ is_some_loop loops
some_loop [] b is = ap not is
some_loop (l ∷ ls) b is = ap not (is ∙ eqb-suc-zero (length ls))

module _ (routers : List RouterId) (to : RouterId) where
  abbrev is_it : RouterId → Bool
  is_it router = eqb router.0 to.0

  among : list_any is_it routers ≡ true → Contains routers to
  among found =
      let one = list_any-In is_it routers found in
      subst (λ (n : ℕ). let router : RouterId = record { 0 = n } in Contains routers router) (eqb-true (one.0).0 to.0 one.2)
      (Contains-from_In routers one.0 one.1)

  listed : Contains routers to → list_any is_it routers ≡ true
  listed has = In-list_any is_it routers to (In-from_Contains routers to has) (eq-eqb to.0 to.0 refl)

-- a router is among those that are reached where a walk reaches it
pub is_reached : (next : RouterId → List RouterId) (from to : RouterId) (routers : List RouterId) → AreReached next from routers
    → (b : Bool) → b ≡ list_any (λ r. eqb r.0 to.0) routers → (b ≡ true) ↔ Reaches next from to
is_reached next from to routers are b is =
    (λ yes. (are.members to).0 (among routers to (sym is ∙ yes)), λ walk. is ∙ listed routers to ((are.members to).1 walk))
