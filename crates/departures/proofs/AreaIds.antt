-- The IDs of areas, one after another.
use Rattle.std.proofs.Common.{◌≡◌, ◌<◌, ℕ, ◌+◌, List, [], ◌∷◌, ◌++◌, length, get_or, map, take, Some, sym, ap, ◌∙◌}
use Rattle.std.specs.List.{slice_get}
use Rattle.std.proofs.lemmas.List.{take_more, map-append}
use Rattle.std.proofs.lemmas.Option.{slice_get-get_or}
use Rattle.lsa_codec.specs.declared.address.AreaId.{AreaId}
use Rattle.lsdb.specs.Lists.{AreaHead}
use Rattle.event_links.specs.Selections.{id_of}

-- the head of an area, by its number
head_at : (heads : List AreaHead) (i : ℕ) (head : AreaHead) → i < length heads → slice_get heads i ≡ Some head → get_or heads i head ≡ head
head_at heads i head below at = let e : Some (get_or heads i head) ≡ Some head = sym (slice_get-get_or heads i head below) ∙ at in cc

-- the IDs with that of one more area
pub one_more : (heads : List AreaHead) (i : ℕ) (head : AreaHead) (ids : List AreaId) → i < length heads → slice_get heads i ≡ Some head
    → ids ≡ map id_of (take i heads) → ids ++ id_of head ∷ [] ≡ map id_of (take (i + 1) heads)
one_more heads i head ids below at so_far =
    ap (λ (xs : List AreaId). xs ++ id_of head ∷ []) so_far
    ∙ sym (ap (map id_of) (take_more heads i head below)
    ∙ map-append id_of (take i heads) (get_or heads i head ∷ [])
    ∙ ap (λ (h : AreaHead). map id_of (take i heads) ++ id_of h ∷ []) (head_at heads i head below at))
