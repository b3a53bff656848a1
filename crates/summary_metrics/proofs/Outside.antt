-- Which entries of AS boundary routers are preferred to those by summary-LSAs.
use Rattle.std.proofs.Common.{◌≡◌, Bool, true, false, cond, List, [], ◌∷◌, ◌++◌, Option, Some, None, refl, ap, ◌∙◌, ◌⊎◌, inl, inr, ⊎_elim, sym}
use Rattle.std.specs.Prelude.{◌&&◌, not}
use Rattle.std.specs.List.{All}
use Rattle.std.specs.Ordering.{is_lt, nat_cmp, ordering_then}
use Rattle.std.proofs.lemmas.List.Elements.{All-head, All-tail}
use Rattle.lsa_codec.specs.Areas.{is_backbone}
use Rattle.area_graph.specs.Least.{least, lesser}
use Rattle.area_routes.specs.declared.entry.EntryKind.TheVariants.{AsbrInter}
use Rattle.area_routes.specs.Values.{EntryValue}
use Rattle.external_routes.specs.Choose.{is_asbr_intra, preference}

-- an intra-area entry of an area that is not the backbone
abbrev pub is_outside : EntryValue → Bool
is_outside e = is_asbr_intra e.kind && not (is_backbone e.area)

-- there is no entry, or it is not such an entry
abbrev pub IsInside : Option EntryValue → Type 0
IsInside None = Unit {0}
IsInside (Some e) = is_outside e ≡ false

-- an entry of an area outside is preferred to one inside
outside_first : (x l : EntryValue) → is_outside x ≡ true → is_outside l ≡ false → is_lt (preference l x) ≡ false
outside_first x l hx hl =
    λ i. is_lt (ordering_then (nat_cmp (cond (hl i) 0 1) (cond (hx i) 0 1)) (ordering_then (nat_cmp l.cost x.cost) (nat_cmp x.area.0 l.area.0)))

lesser_inside : (x : EntryValue) (o : Option EntryValue) → is_outside x ≡ false → IsInside o → IsInside (Some (lesser preference x o))
lesser_inside x None hx h = hx
lesser_inside x (Some l) hx h = by (is_lt (preference l x))
  where
    by : (b : Bool) → is_outside (cond b l x) ≡ false
    by true = h
    by false = hx

lesser_outside : (x : EntryValue) (o : Option EntryValue) → is_outside x ≡ true → IsInside o → lesser preference x o ≡ x
lesser_outside x None hx h = refl
lesser_outside x (Some l) hx h = ap (λ b. cond b l x) (outside_first x l hx h)

-- the two are equal, or both inside
abbrev pub Alike : Option EntryValue → Option EntryValue → Type 0
Alike o p = (o ≡ p) ⊎ (IsInside o × IsInside p)

inside_all : (ys : List EntryValue) → All (λ e. e.kind ≡ AsbrInter) ys → IsInside (least preference ys)
inside_all [] all = tt
inside_all (y ∷ ys) all =
    let P : EntryValue → Type 0 = λ e. e.kind ≡ AsbrInter in
    lesser_inside y (least preference ys) (ap (λ k. is_asbr_intra k && not (is_backbone y.area)) (All-head P y ys all)) (inside_all ys (All-tail P y ys all))

pub least_alike : (xs ys : List EntryValue) → All (λ e. e.kind ≡ AsbrInter) ys → Alike (least preference (xs ++ ys)) (least preference xs)
least_alike [] ys all = inr (inside_all ys all, tt)
least_alike (x ∷ xs) ys all =
    ⊎_elim (λ same. inl (ap (λ o. Some (lesser preference x o)) same)) (λ both. by (is_outside x) refl both) (least_alike xs ys all)
  where
    by : (b : Bool) → is_outside x ≡ b → IsInside (least preference (xs ++ ys)) × IsInside (least preference xs)
        → Alike (Some (lesser preference x (least preference (xs ++ ys)))) (Some (lesser preference x (least preference xs)))
    by true h both =
        inl (ap Some (lesser_outside x (least preference (xs ++ ys)) h both.0 ∙ sym (lesser_outside x (least preference xs) h both.1)))
    by false h both = inr (lesser_inside x (least preference (xs ++ ys)) h both.0, lesser_inside x (least preference xs) h both.1)
