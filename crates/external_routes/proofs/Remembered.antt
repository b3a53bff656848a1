-- Entries that are remembered: each is the preferred one of its router.
use Rattle.std.proofs.Common.{◌≡◌, ◌&&◌, ℕ, ◌≤◌, Bool, true, false, cond, List, [], ◌∷◌, length, Option, Some, refl, sym, ap, ◌∙◌, arith}
use Rattle.std.specs.List.{All, filter, slice_get}
use Rattle.std.specs.BTreeMap.{BTreeMap, get}
use Rattle.std.proofs.lemmas.Bool.{eqb-true}
use Rattle.std.proofs.lemmas.List.{take_all}
use Rattle.std.proofs.lemmas.List.Elements.{All-nil, All-cons}
use Rattle.std.proofs.lemmas.Option.{slice_get_past}
use Rattle.lsa_codec.specs.declared.address.RouterId.{RouterId}
use Rattle.lsa_codec.specs.Order.{router_cmp}
use Rattle.area_routes.specs.Inter.{same_router}
use Rattle.area_routes.specs.Values.{EntryValue}
use Rattle.external_routes.specs.Choose.{is_asbr, is_asbr_kind, preference, preferred}
use Rattle.external_routes.specs.steps.Lookup.{entry_at, IsPreferred, MapsPreferred}
use Rattle.external_routes.proofs.First.{least_all}

-- all members of a filtered list pass the test
all_pass : {X : Type 0} (p : X → Bool) (xs : List X) → All (λ x. p x ≡ true) (filter p xs)
all_pass p [] = All-nil (λ x. p x ≡ true)
all_pass p (x ∷ xs) = by (p x) refl (all_pass p xs)
  where
    by : (b : Bool) → p x ≡ b → All (λ x. p x ≡ true) (filter p xs) → All (λ x. p x ≡ true) (cond b (x ∷ filter p xs) (filter p xs))
    by true is rest = All-cons (λ x. p x ≡ true) x (filter p xs) is rest
    by false is rest = rest

-- a router's preferred entry is its own
own_entry : (entries : List EntryValue) (asbr : RouterId) (e : EntryValue) → Some e ≡ preferred entries asbr → e.router ≡ asbr
own_entry entries asbr e is = by (is_asbr_kind e.kind) (least_all preference (λ x. is_asbr asbr x ≡ true) (filter (is_asbr asbr) entries) e (all_pass (is_asbr asbr) entries) is)
  where
    by : (b : Bool) → (b && same_router e.router asbr) ≡ true → e.router ≡ asbr
    by true h = ap (λ (n : ℕ). record { 0 = n }) (eqb-true e.router.0 asbr.0 h)
    by false h = cc

-- the index of a router's preferred entry
pub preferred_at : (entries : List EntryValue) (asbr : RouterId) (i : ℕ) → slice_get entries i ≡ preferred entries asbr → IsPreferred entries i
preferred_at entries asbr i is e at =
    let found : Some e ≡ preferred entries asbr = sym at ∙ is in
    found ∙ ap (preferred entries) (sym (own_entry entries asbr e found))

-- no entry has an index past the end
pub none_preferred : (entries : List EntryValue) (i : ℕ) → length entries ≤ i → IsPreferred entries i
none_preferred entries i past e at = let none = sym (slice_get_past entries i past) ∙ at in cc

-- the entry of the map for a router
pub mapped_at : (entries : List EntryValue) (asbrs : BTreeMap RouterId ℕ) (asbr : RouterId) (index : Option ℕ)
    → MapsPreferred entries (length entries) asbrs → index ≡ get router_cmp asbrs asbr → entry_at entries index ≡ preferred entries asbr
mapped_at entries asbrs asbr index maps is =
    ap (entry_at entries) is ∙ maps asbr ∙ ap (λ es. preferred es asbr) (take_all (length entries) entries (omega arith))
