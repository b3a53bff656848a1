-- Areas that a loop puts together, one after another.
use Rattle.std.proofs.Common.{◌≡◌, ℕ, zero, suc, List, [], ◌∷◌, ◌++◌, map, take, Some, sym, ap, ◌∙◌}
use Rattle.std.specs.Prelude.{slice_get}
use Rattle.lsa_codec.specs.declared.address.AreaId.{AreaId}
use Rattle.lsdb.specs.Lists.{AreaHead}
use Rattle.event_links.specs.Selections.{id_of}

-- one more area
taken_more : (heads : List AreaHead) (i : ℕ) (head : AreaHead) → slice_get heads i ≡ Some head
    → map id_of (take i heads) ++ id_of head ∷ [] ≡ map id_of (take (suc i) heads)
taken_more [] i head at = absurd cc
taken_more (h ∷ hs) zero head at =
    let same : h ≡ head = cc in
    ap (λ (x : AreaHead). let ids : List AreaId = id_of x ∷ [] in ids) (sym same)
taken_more (h ∷ hs) (suc i) head at = ap (λ (ids : List AreaId). id_of h ∷ ids) (taken_more hs i head at)

pub ids_more : (heads : List AreaHead) (i j : ℕ) (head : AreaHead) (old new : List AreaId) → j ≡ suc i → slice_get heads i ≡ Some head
    → old ≡ map id_of (take i heads) → new ≡ old ++ id_of head ∷ [] → new ≡ map id_of (take j heads)
ids_more heads i j head old new e at so_far pushed =
    pushed ∙ ap (λ (ids : List AreaId). ids ++ id_of head ∷ []) so_far ∙ taken_more heads i head at
    ∙ ap (λ (k : ℕ). map id_of (take k heads)) (sym e)
