-- Sets that gain members, one after another.
use Rattle.std.proofs.Common.{◌≡◌, ℕ, ◌+◌, ◌<◌, ◌≤◌, List, [], ◌∷◌, ◌++◌, get_or, length, take, refl, sym, ap, ◌∙◌, subst, ◌⊎◌, inl, inr, ⊎_elim}
use Rattle.std.specs.Prelude.{◌↔◌}
use Rattle.std.specs.BTreeSet.{insert_key}
use Rattle.std.specs.Cmp.{IsTotalOrder}
use Rattle.std.specs.List.{Contains}
use Rattle.std.specs.declared.cmp.Ordering.{Ordering}
use Rattle.std.proofs.lemmas.List.{take_all, take_more}
use Rattle.std.proofs.lemmas.Map.Lookups.{CmpEqualImpliesEq}
use Rattle.area_graph.proofs.MemberLemmas.{Contains-from_In, In, In-cases, In-from_Contains, In-left, In-right}
use Rattle.area_graph.proofs.RisingLemmas.{In-insert, insert-In}

module _ {K : Type 0} where
  -- new has what old has, and what P holds of
  abbrev pub Inserts : (K → Type 0) → List K → List K → Type 0
  Inserts P old new = (k : K) → Contains new k ↔ (Contains old k ⊎ P k)

  pub inserts_nothing : (P : K → Type 0) (keys : List K) → ((k : K) → P k → ⊥) → Inserts P keys keys
  inserts_nothing P keys never k = (λ h. inl h, λ s. ⊎_elim (λ h. h) (λ p. absurd (never k p)) s)

  pub inserts_as : (P Q : K → Type 0) (old new : List K) → ((k : K) → P k ↔ Q k) → Inserts P old new → Inserts Q old new
  inserts_as P Q old new same ins k = (
    λ h. ⊎_elim (λ o. inl o) (λ p. inr ((same k).0 p)) ((ins k).0 h),
    λ s. (ins k).1 (⊎_elim (λ o. inl o) (λ q. inr ((same k).1 q)) s),
  )

  pub inserts_both : (P Q : K → Type 0) (old mid new : List K) → Inserts P old mid → Inserts Q mid new → Inserts (λ k. P k ⊎ Q k) old new
  inserts_both P Q old mid new one two k = (
    λ h. ⊎_elim (λ m. ⊎_elim (λ o. inl o) (λ p. inr (inl p)) ((one k).0 m)) (λ q. inr (inr q)) ((two k).0 h),
    λ s. (two k).1 (⊎_elim (λ o. inl ((one k).1 (inl o))) (λ r. ⊎_elim (λ p. inl ((one k).1 (inr p))) (λ q. inr q) r) s),
  )

  -- ---- loops

  module _ {X : Type 0} (Q : X → K → Type 0) (xs : List X) where
    -- what Q holds of, for one of the first items
    abbrev pub OfFirst : ℕ → K → Type 0
    OfFirst i k = (x : X) × Contains (take i xs) x × Q x k

    pub first_none : (keys : List K) → Inserts (OfFirst 0) keys keys
    first_none keys = inserts_nothing (OfFirst 0) keys (λ k p. In-from_Contains (take 0 xs) p.0 p.1)

    pub first_more : (i : ℕ) (x : X) (old mid new : List K) → i < length xs → x ≡ get_or xs i x → Inserts (OfFirst i) old mid → Inserts (Q x) mid new
        → Inserts (OfFirst (i + 1)) old new
    first_more i x old mid new lt item so_far one =
        inserts_as (λ k. OfFirst i k ⊎ Q x k) (OfFirst (i + 1)) old new (λ k. (
          λ s. ⊎_elim (λ f. (f.0, wider f.0 (In-left (take i xs) (x ∷ []) f.0 (In-from_Contains (take i xs) f.0 f.1)), f.2))
              (λ q. (x, wider x (In-right (take i xs) (x ∷ []) x (inl refl)), q)) s,
          λ f. ⊎_elim (λ l. inl (f.0, Contains-from_In (take i xs) f.0 l, f.2)) (λ r. inr (of_last f.0 k r f.2))
              (In-cases (take i xs) (x ∷ []) f.0 (subst (λ (l : List X). In l f.0) (sym more) (In-from_Contains (take (i + 1) xs) f.0 f.1))),
        )) (inserts_both (OfFirst i) (Q x) old mid new so_far one)
      where
        more : take i xs ++ x ∷ [] ≡ take (i + 1) xs
        more = ap (λ (y : X). take i xs ++ y ∷ []) item ∙ sym (take_more xs i x lt)

        wider : (y : X) → In (take i xs ++ x ∷ []) y → Contains (take (i + 1) xs) y
        wider y at = Contains-from_In (take (i + 1) xs) y (subst (λ (l : List X). In l y) more at)

        of_last : (y : X) (k : K) → In (x ∷ []) y → Q y k → Q x k
        of_last y k (inl p) q = subst (λ (z : X). Q z k) (sym p) q
        of_last y k (inr i) q = absurd i

    pub first_all : (i : ℕ) (old new : List K) → length xs ≤ i → Inserts (OfFirst i) old new → Inserts (λ k. (x : X) × Contains xs x × Q x k) old new
    first_all i old new past ins = subst (λ (l : List X). Inserts (λ k. (x : X) × Contains l x × Q x k) old new) (take_all i xs past) ins

  module _ {R : K → K → Ordering} (o : IsTotalOrder R) (exact : CmpEqualImpliesEq R) where
    pub inserts_one : (k : K) (old new : List K) → new ≡ insert_key R old k → Inserts (λ x. x ≡ k) old new
    inserts_one k old new made x = (
      λ h. ⊎_elim (λ i. inl (Contains-from_In old x i)) (λ q. inr (sym q))
          (insert-In o exact old k x (subst (λ (l : List K). In l x) made (In-from_Contains new x h))),
      λ s. Contains-from_In new x (subst (λ (l : List K). In l x) (sym made)
          (In-insert o exact old k x (⊎_elim (λ c. inl (In-from_Contains old x c)) (λ q. inr (sym q)) s))),
    )
