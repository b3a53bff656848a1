-- `rising` lists with the same members, and with one member more.
use Rattle.std.proofs.Common.{◌≡◌, Bool, true, false, List, [], ◌∷◌, ◌++◌, refl, sym, ap, ◌∙◌, subst, ⊎_elim}
use Rattle.std.specs.Prelude.{◌||◌}
use Rattle.std.specs.BTreeSet.{insert_key}
use Rattle.std.specs.Cmp.{IsTotalOrder}
use Rattle.std.specs.List.{list_any}
use Rattle.std.specs.Ordering.{eq_by_cmp}
use Rattle.std.specs.declared.cmp.Ordering.{Ordering}
use Rattle.std.proofs.lemmas.List.Folds.{list_any-append}
use Rattle.std.proofs.lemmas.Map.Lookups.{CmpEqualImpliesEq}
use Rattle.area_graph.specs.Rising.{rising}
use Rattle.area_graph.proofs.MemberLemmas.{In, Contains-from_In, In-cases, In-from_Contains, In-left, In-right}
use Rattle.area_graph.proofs.RisingLemmas.{In-rising, rising-In, rising-is, rising-pairs}
use Rattle.best_ways.proofs.RisingLemmas.{any_insert, any_rising, rising_is, sorted_insert, sorted_rising}

swapped : (a b : Bool) → (a || b) ≡ (b || (a || false))
swapped true true = refl
swapped true false = refl
swapped false true = refl
swapped false false = refl

module _ {K : Type 0} {R : K → K → Ordering} (o : IsTotalOrder R) (exact : CmpEqualImpliesEq R) where
  -- a key that comes last
  pub insert_last : (before : List K) (k : K) → insert_key R (rising R before) k ≡ rising R (before ++ k ∷ [])
  insert_last before k =
      rising_is o exact (insert_key R (rising R before) k) (before ++ k ∷ [])
      (sorted_insert o (rising R before) k (sorted_rising o before)) (λ q.
      any_insert o q (rising R before) k ∙ ap (λ b. eq_by_cmp R q k || b) (any_rising o q before)
      ∙ swapped (eq_by_cmp R q k) (list_any (eq_by_cmp R q) before) ∙ sym (list_any-append (eq_by_cmp R q) before (k ∷ [])))

  pub same_members : (xs ys : List K) → ((x : K) → In xs x → In ys x) → ((x : K) → In ys x → In xs x) → rising R xs ≡ rising R ys
  same_members xs ys there back =
      rising-is o exact (rising R xs) ys (rising-pairs o exact xs) (λ x. (
        λ h. Contains-from_In ys x (there x (rising-In o exact xs x (In-from_Contains (rising R xs) x h))),
        λ h. Contains-from_In (rising R xs) x (In-rising o exact xs x (back x (In-from_Contains ys x h))),
      ))

  member_of : (xs ys : List K) → rising R xs ≡ rising R ys → (x : K) → In xs x → In ys x
  member_of xs ys same x i = rising-In o exact ys x (subst (λ (ks : List K). In ks x) same (In-rising o exact xs x i))

  -- two parts, each with the same members
  pub both_parts : (ks ls ms ns : List K) → rising R ks ≡ rising R ls → rising R ms ≡ rising R ns → rising R (ks ++ ms) ≡ rising R (ls ++ ns)
  both_parts ks ls ms ns one two =
      same_members (ks ++ ms) (ls ++ ns)
      (λ x i. ⊎_elim (λ k. In-left ls ns x (member_of ks ls one x k)) (λ m. In-right ls ns x (member_of ms ns two x m)) (In-cases ks ms x i))
      (λ x i. ⊎_elim (λ l. In-left ks ms x (member_of ls ks (sym one) x l)) (λ n. In-right ks ms x (member_of ns ms (sym two) x n)) (In-cases ls ns x i))
