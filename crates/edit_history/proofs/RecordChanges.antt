-- A record counts the changes of its edit, and touches the areas that they touch.
use Rattle.std.proofs.Common.{◌≡◌, suc, Bool, ◌||◌, List, [], ◌∷◌, length, map, Result, Ok, refl, sym, ap, ◌∙◌}
use Rattle.std.proofs.lemmas.List.{length-map}
use Rattle.std.specs.List.{list_any}
use Rattle.lsa_codec.specs.declared.address.AreaId.{AreaId}
use Rattle.lsdb.specs.Slots.{Slots, put, lists_of}
use Rattle.edit_script.specs.declared.edit.Edit.{Edit}
use Rattle.edit_history.specs.declared.fault.EditFault.{EditFault}
use Rattle.edit_history.specs.Rules.{Change}
use Rattle.edit_history.specs.Effect.{is_of_graph, changes, touched}
use Rattle.edit_history.specs.Exchange.{SwapData, RecordData, done_slots, done_swaps, undone_slots}
use Rattle.edit_history.specs.Applied.{swap_change, Applied, CarriesOut, TakesBack, Reports}

abbrev touches_any : AreaId → List SwapData → Bool
touches_any area ss = list_any (λ (s : SwapData). is_of_graph area s.section s.kind) ss

pub touched_reported : (area : AreaId) (e : Slots) (ss : List SwapData) → touches_any area ss ≡ touched area (map (swap_change e) ss)
touched_reported area e [] = refl
touched_reported area e (s ∷ ss) = ap (λ (b : Bool). is_of_graph area s.section s.kind || b) (touched_reported area e ss)

pub touched_done : (area : AreaId) (d : Slots) (ss : List SwapData) → touches_any area (done_swaps d ss) ≡ touches_any area ss
touched_done area d [] = refl
touched_done area d (s ∷ ss) = ap (λ (b : Bool). is_of_graph area s.section s.kind || b) (touched_done area (put d s.slot s.other) ss)

length_done : (d : Slots) (ss : List SwapData) → length (done_swaps d ss) ≡ length ss
length_done d [] = refl
length_done d (s ∷ ss) = ap suc (length_done (put d s.slot s.other) ss)

reports_at : (e : Slots) (r : RecordData) (cs : List Change) → cs ≡ map (swap_change e) r.swaps → Reports r cs
reports_at e r cs is = record {
  count = sym (length-map r.swaps (swap_change e)) ∙ ap (λ (xs : List Change). length xs) (sym is);
  areas = λ area. touched_reported area e r.swaps ∙ ap (touched area) (sym is);
}

same_list : (a : Result (List Change) EditFault) (xs ys : List Change) → a ≡ Ok xs → a ≡ Ok ys → ys ≡ xs
same_list a xs ys p q = let both : (let r : Result (List Change) EditFault = Ok ys in r) ≡ Ok xs = sym q ∙ p in cc

pub applied_reports : (d e : Slots) (edit : Edit) (r : RecordData) (cs : List Change) → Applied d e edit r → changes (lists_of d) edit ≡ Ok cs
    → Reports r cs
applied_reports d e edit r cs applied is = reports_at e r cs (same_list (changes (lists_of d) edit) (map (swap_change e) r.swaps) cs applied.reports is)

pub done_reports : (e : Slots) (r : RecordData) (cs : List Change) → TakesBack e r.edit r.swaps
    → changes (lists_of (undone_slots e r.swaps)) r.edit ≡ Ok cs → Reports r cs
done_reports e r cs back is = reports_at e r cs (same_list (changes (lists_of (undone_slots e r.swaps)) r.edit) (map (swap_change e) r.swaps) cs back.reports is)

pub undone_reports : (d : Slots) (r : RecordData) (cs : List Change) → CarriesOut d r.edit r.swaps → changes (lists_of d) r.edit ≡ Ok cs → Reports r cs
undone_reports d r cs on is =
    let done : RecordData = record { edit = r.edit; swaps = done_swaps d r.swaps } in
    let e : Slots = done_slots d r.swaps in
    let reports = reports_at e done cs (same_list (changes (lists_of d) r.edit) (map (swap_change e) done.swaps) cs on.reports is) in
    record {
      count = sym (length_done d r.swaps) ∙ reports.count;
      areas = λ area. sym (touched_done area d r.swaps) ∙ reports.areas area;
    }
