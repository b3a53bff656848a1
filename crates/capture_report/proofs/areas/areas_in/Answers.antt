use Rattle.std.proofs.Common.{◌≡◌, ◌∙◌, sym, ap, ℕ, ◌+◌, List, [], ◌∷◌, ◌++◌, map, take, Some}
use Rattle.std.specs.List.{slice_get}
use Rattle.std.proofs.lemmas.List.{map_push, take_more}
use Rattle.std.proofs.lemmas.Option.{get_or_from_slice_get, slice_get_within}
use Rattle.lsa_codec.specs.declared.address.AreaId.{AreaId}
use Rattle.lsdb.specs.Lists.{AreaHead, areas_of}
use Rattle.lsdb.specs.Slots.{lists_of}
use Rattle.capture_report.proofs.areas.areas_in.Goals as goal
use Rattle.capture_report.proofs.areas.areas_in.Invariants.{id_of}

-- one more area
one_more : (areas : List AreaHead) (i : ℕ) (area : AreaHead) (old : List AreaId) → slice_get areas i ≡ Some area → old ≡ map id_of (take i areas)
    → old ++ id_of area ∷ [] ≡ map id_of (take (i + 1) areas)
one_more areas i area old here before =
    ap (λ ids. ids ++ id_of area ∷ []) before
    ∙ sym (map_push id_of (take i areas) area)
    ∙ sym
    (ap (map id_of)
    (take_more areas i area (slice_get_within areas i area here)
    ∙ ap (λ a. take i areas ++ a ∷ []) (get_or_from_slice_get areas i area area here)))

pub loop-i-preserved : goal.loop-i-preserved
loop-i-preserved g c =
    let head : AreaHead = record { id = c.area-is_stub.result.0.0; is_stub = c.area-is_stub.result.1 } in
    c.in_ok-push.ensures.items
    ∙ one_more (areas_of (lists_of c.args.database.now)) c.loop-i.i head c.loop-i.ids.items c.area-is_stub.ensures c.loop-i.invariant
