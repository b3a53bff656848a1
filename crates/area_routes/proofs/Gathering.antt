-- The result of an area, as it grows.
use Rattle.std.proofs.Common.{◌≡◌, ℕ, ◌+◌, ◌<◌, List, [], ◌∷◌, ◌++◌, take, get_or, length, sym, ap, ◌∙◌, append_assoc}
use Rattle.std.specs.Prelude.{map}
use Rattle.std.proofs.lemmas.List.{append-nil, map-append, take_more}
use Rattle.lsa_codec.specs.Prefix.{Net}
use Rattle.best_ways.specs.Candidate.{Candidate}
use Rattle.area_routes.specs.Offers.{offer_candidate}
use Rattle.area_routes.specs.Values.{AreaResultValue, EntryValue, OfferValue}
use Rattle.area_routes.specs.steps.Growing.{with_offers, with_entries}
use Rattle.area_routes.proofs.AddsLemmas.{Adds}

-- nothing more
pub with_no_offers : (cs : List (Candidate Net)) → with_offers cs [] ≡ cs
with_no_offers cs = append-nil cs

pub with_no_entries : (r : AreaResultValue) → with_entries r [] ≡ r
with_no_entries r i = record { area = r.area; offers = r.offers; entries = append-nil r.entries i }

-- some, and then others
pub offers_then : (cs : List (Candidate Net)) (xs ys : List OfferValue) → with_offers (with_offers cs xs) ys ≡ with_offers cs (xs ++ ys)
offers_then cs xs ys =
    append_assoc cs (map offer_candidate xs) (map offer_candidate ys)
    ∙ ap (λ (more : List (Candidate Net)). cs ++ more) (sym (map-append offer_candidate xs ys))

pub entries_then : (r : AreaResultValue) (xs ys : List EntryValue) → with_entries (with_entries r xs) ys ≡ with_entries r (xs ++ ys)
entries_then r xs ys i = record { area = r.area; offers = r.offers; entries = append_assoc r.entries xs ys i }

-- the offers of one more item
pub offers_push : {X : Type 0} {g : List X → List OfferValue} {h : X → List OfferValue} → Adds g h → (xs : List X) (x : X) (old mid new : List (Candidate Net))
    → mid ≡ with_offers old (g xs) → new ≡ with_offers mid (h x) → new ≡ with_offers old (g (xs ++ x ∷ []))
offers_push {X} {g} {h} adds xs x old mid new before step =
    step ∙ ap (λ (cs : List (Candidate Net)). with_offers cs (h x)) before ∙ offers_then old (g xs) (h x)
    ∙ ap (λ (os : List OfferValue). with_offers old os) (sym (adds.push xs x))

-- the same at a place
pub offers_more : {X : Type 0} {g : List X → List OfferValue} {h : X → List OfferValue} → Adds g h
    → (xs : List X) (i : ℕ) (x : X) → i < length xs → x ≡ get_or xs i x → (old mid new : List (Candidate Net))
    → mid ≡ with_offers old (g (take i xs)) → new ≡ with_offers mid (h x) → new ≡ with_offers old (g (take (i + 1) xs))
offers_more {X} {g} {h} adds xs i x lt at old mid new before step =
    offers_push adds (take i xs) x old mid new before step
    ∙ ap (λ (ys : List X). with_offers old (g ys)) (ap (λ (y : X). take i xs ++ y ∷ []) at ∙ sym (take_more xs i x lt))

pub entries_more : {X : Type 0} {g : List X → List EntryValue} {h : X → List EntryValue} → Adds g h
    → (xs : List X) (i : ℕ) (x : X) → i < length xs → x ≡ get_or xs i x → (old mid new : AreaResultValue)
    → mid ≡ with_entries old (g (take i xs)) → new ≡ with_entries mid (h x) → new ≡ with_entries old (g (take (i + 1) xs))
entries_more {X} {g} {h} adds xs i x lt at old mid new before step =
    step ∙ ap (λ (r : AreaResultValue). with_entries r (h x)) before ∙ entries_then old (g (take i xs)) (h x)
    ∙ ap (λ (es : List EntryValue). with_entries old es)
    (sym (adds.push (take i xs) x) ∙ ap g (ap (λ (y : X). take i xs ++ y ∷ []) at ∙ sym (take_more xs i x lt)))
