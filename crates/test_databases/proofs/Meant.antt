-- The edits that lines mean, with one more line.
use Rattle.std.proofs.Common.{◌≡◌, ℕ, ◌+◌, ◌<◌, List, [], ◌∷◌, ◌++◌, length, get_or, take, Option, Some, sym, ap, ◌∙◌}
use Rattle.std.specs.Prelude.{map}
use Rattle.std.specs.Borrow.{Bor}
use Rattle.std.proofs.lemmas.List.{map_more, map-append}
use Rattle.edit_script.specs.declared.edit.Edit.{Edit}
use Rattle.test_databases.specs.Lines.{edit_in, Mean}

abbrev meant : Bor (List ℕ) → Option Edit
meant line = edit_in line.now

abbrev some : Edit → Option Edit
some edit = Some edit

pub mean_more : (lines : List (Bor (List ℕ))) (i : ℕ) (d : Bor (List ℕ)) (edits : List Edit) (e : Edit) → i < length lines
    → Mean (take i lines) edits → Some e ≡ edit_in (get_or lines i d).now → Mean (take (i + 1) lines) (edits ++ e ∷ [])
mean_more lines i d edits e lt before this =
    map_more meant lines i d lt
    ∙ ap (λ (found : List (Option Edit)). found ++ meant (get_or lines i d) ∷ []) before
    ∙ ap (λ (o : Option Edit). map some edits ++ o ∷ []) (sym this)
    ∙ sym (map-append some edits (e ∷ []))
