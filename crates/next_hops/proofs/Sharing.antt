-- Lists that are kept once keep their numbers.
use Rattle.std.proofs.Common.{◌≡◌, ℕ, ◌+◌, ◌<◌, Bool, true, false, ◌&&◌, Option, None, Some, List, [], ◌∷◌, ◌++◌, length, map, get_or, take, if◌then◌else◌}
use Rattle.std.proofs.Common.{refl, sym, ap, ◌∙◌, subst, arith}
use lib.Pointwise.{pointwise}
use Rattle.std.specs.List.{All, slice_get, position}
use Rattle.std.specs.Option.{option_map, IfSome}
use Rattle.std.proofs.lemmas.List.Quantifiers.{position-Some}
use Rattle.std.proofs.lemmas.Bool.{false≢true}
use Rattle.std.proofs.lemmas.Option.{get_or_from_slice_get, slice_get-get_or, slice_get-map}
use Rattle.std.proofs.lemmas.List.{get_or-map, length-append, length-map, map-append, take_more}
use Rattle.std.proofs.lemmas.List.Elements.{All-head, All-push, All-tail}
use Rattle.std.proofs.Math.ListN.{get_or-append}
use Rattle.std.specs.declared.vec.Vec.{Vec}
use Rattle.next_hops.specs.declared.hop.Hop.{Hop}
use Rattle.next_hops.specs.Hop.{IsSortedHops}
use Rattle.next_hops.specs.steps.Shared.{Keeps, list_in, lists_in}

module _ {A : Type 0} where
  pub Keeps-same : (lists : List (Vec Hop A)) → Keeps lists lists
  Keeps-same lists = record { same = λ n lt. refl; no_less = omega arith; sorted = λ s. s }

  pub Keeps-then : (a b c : List (Vec Hop A)) → Keeps a b → Keeps b c → Keeps a c
  Keeps-then a b c one two = record {
    same = λ n lt. two.same n (let le = one.no_less in omega arith) ∙ one.same n lt;
    no_less = (let le = one.no_less in let more = two.no_less in omega arith);
    sorted = λ s. two.sorted (one.sorted s);
  }

  pub Keeps-put : (lists : List (Vec Hop A)) (list : Vec Hop A) → IsSortedHops list.items → Keeps lists (lists ++ list ∷ [])
  Keeps-put lists list in_order = record {
    same = λ n lt.
        ap (λ (xs : List (List Hop)). get_or xs n []) (map-append (λ x. x.items) lists (list ∷ []))
        ∙ get_or-append (map (λ x. x.items) lists) (list.items ∷ []) [] n (within n lt);
    no_less = (let e = length-append lists (list ∷ []) in omega arith);
    sorted = λ s. All-push (λ (x : Vec Hop A). IsSortedHops x.items) lists list s in_order;
  }
    where
      within : (n : ℕ) → n < length lists → n < length (map (λ (x : Vec Hop A). x.items) lists)
      within n lt = subst (λ (m : ℕ). n < m) (sym (length-map lists (λ x. x.items))) lt

  -- a list that is added unless it is there
  pub Keeps-inserted : (is_there : Bool) (lists new : List (Vec Hop A)) (list : Vec Hop A) → IsSortedHops list.items
      → new ≡ (if is_there then lists else lists ++ list ∷ []) → Keeps lists new
  Keeps-inserted true lists new list in_order is = subst (λ (xs : List (Vec Hop A)). Keeps lists xs) (sym is) (Keeps-same lists)
  Keeps-inserted false lists new list in_order is = subst (λ (xs : List (Vec Hop A)). Keeps lists xs) (sym is) (Keeps-put lists list in_order)

  lists_in-kept : (old new : List (Vec Hop A)) → Keeps old new → (numbers : List ℕ)
      → All (λ n. n < length old) numbers → lists_in new numbers ≡ lists_in old numbers
  lists_in-kept old new keeps [] within = refl
  lists_in-kept old new keeps (n ∷ ns) within =
      ap (λ (hops : List Hop). hops ∷ lists_in new ns) (keeps.same n (All-head (λ m. m < length old) n ns within))
      ∙ ap (λ (rest : List (List Hop)). list_in old n ∷ rest) (lists_in-kept old new keeps ns (All-tail (λ m. m < length old) n ns within))

  -- one more list, by its number
  pub lists_in-push : (old new : List (Vec Hop A)) (numbers : List ℕ) (n i : ℕ) (lists : List (List Hop))
      → Keeps old new → All (λ m. m < length old) numbers → i < length lists
      → lists_in old numbers ≡ take i lists → list_in new n ≡ get_or lists i [] → lists_in new (numbers ++ n ∷ []) ≡ take (i + 1) lists
  lists_in-push old new numbers n i lists keeps within more before next =
      map-append (λ m. list_in new m) numbers (n ∷ [])
      ∙ ap (λ (xs : List (List Hop)). xs ++ list_in new n ∷ []) (lists_in-kept old new keeps numbers within ∙ before)
      ∙ ap (λ (hops : List Hop). take i lists ++ hops ∷ []) next
      ∙ sym (take_more lists i [] more)

-- lists whose items are equal one by one are the same
pub pointwise-same : {T : Type 0} (eq : T → T → Bool) → ((x y : T) → eq x y ≡ true → x ≡ y) → (xs ys : List T) → pointwise eq xs ys ≡ true → xs ≡ ys
pointwise-same eq exact [] [] h = refl
pointwise-same eq exact [] (y ∷ ys) h = absurd (false≢true h)
pointwise-same eq exact (x ∷ xs) [] h = absurd (false≢true h)
pointwise-same {T} eq exact (x ∷ xs) (y ∷ ys) h = by_test (eq x y) refl (λ rest. pointwise-same eq exact xs ys rest) h
  where
    by_test : (b : Bool) → eq x y ≡ b → (pointwise eq xs ys ≡ true → xs ≡ ys) → (b && pointwise eq xs ys) ≡ true → (x ∷ xs) ≡ (y ∷ ys)
    by_test true is tails rest = ap (λ (z : T). z ∷ xs) (exact x y is) ∙ ap (λ (zs : List T). y ∷ zs) (tails rest)
    by_test false is tails rest = absurd (false≢true rest)

module _ {A : Type 0} where
  -- the list at a number, by the list that is there
  pub list_in-at : (lists : List (Vec Hop A)) (n : ℕ) (list : Vec Hop A) → slice_get lists n ≡ Some list → list_in lists n ≡ list.items
  list_in-at lists n list at =
      get_or_from_slice_get (map (λ x. x.items) lists) n list.items []
      (slice_get-map (λ (x : Vec Hop A). x.items) lists n ∙ ap (λ (o : Option (Vec Hop A)). option_map (λ x. x.items) o) at)

  -- the list of a vertex, by its number
  pub lists_in-at : (lists : List (Vec Hop A)) (numbers : List ℕ) (index n : ℕ) (list : Vec Hop A)
      → index < length (lists_in lists numbers) → n ≡ get_or numbers index n
      → slice_get lists n ≡ Some list → get_or (lists_in lists numbers) index [] ≡ list.items
  lists_in-at lists numbers index n list within number at =
      get_or-map (λ m. list_in lists m) numbers index n [] (subst (λ k. index < k) (length-map numbers (λ m. list_in lists m)) within)
      ∙ ap (λ (m : ℕ). list_in lists m) (sym number)
      ∙ list_in-at lists n list at

-- the list that a search finds is the one that was looked for
pub found_list : {A : Type 0} (eq : Hop → Hop → Bool) → ((g h : Hop) → eq g h ≡ true → g ≡ h) → (hops : List Hop) (lists : List (Vec Hop A)) (o : Option ℕ)
    → o ≡ position (λ list. pointwise eq hops list.items) lists → IfSome o (λ n. list_in lists n ≡ hops)
found_list eq exact hops lists None is = tt
found_list eq exact hops [] (Some n) is = absurd (cc)
found_list {A} eq exact hops (first ∷ rest) (Some n) is =
    let lists : List (Vec Hop A) = first ∷ rest in
    let found = position-Some (λ (list : Vec Hop A). pointwise eq hops list.items) lists n first (sym is) in
    let at : slice_get lists n ≡ Some (get_or lists n first) = slice_get-get_or lists n first found.0 in
    list_in-at lists n (get_or lists n first) at ∙ sym (pointwise-same eq exact hops (get_or lists n first).items found.1)
