-- The edits of records and their lines, one more after another.
use Rattle.std.proofs.Common.{◌≡◌, ℕ, ◌+◌, ◌<◌, List, [], ◌∷◌, ◌++◌, append_assoc, length, get_or, take, sym, ap, ◌∙◌, subst}
use Rattle.std.specs.Prelude.{All}
use Rattle.std.proofs.lemmas.List.{append-nil, map_more}
use Rattle.std.proofs.lemmas.List.Concat.{flat_map-append, flat_map-cons}
use Rattle.std.proofs.lemmas.List.Elements.{All-append, All-cons, All-nil}
use Rattle.edit_script.specs.declared.edit.Edit.{Edit}
use Rattle.edit_history.specs.Exchange.{RecordData}
use Rattle.edit_history.specs.Session.{edits_of}
use Rattle.saved_sessions.specs.Lines.{line_of, lines_of}

module _ (records : List RecordData) (i : ℕ) (d : RecordData) (edit : Edit) (lt : i < length records) (is : (get_or records i d).edit ≡ edit) where
  abbrev pub before : List Edit
  before = edits_of (take i records)

  more : edits_of (take (i + 1) records) ≡ before ++ edit ∷ []
  more = map_more (λ (r : RecordData). r.edit) records i d lt ∙ ap (λ (e : Edit). before ++ e ∷ []) is

  -- what holds of the edits before and of the next one
  pub one_more : (P : Edit → Type 0) → P edit → All P before → All P (edits_of (take (i + 1) records))
  one_more P here all = subst (All P) (sym more) (All-append P before (edit ∷ []) all (All-cons P edit [] here (All-nil P)))

  more_lines : lines_of (edits_of (take (i + 1) records)) ≡ lines_of before ++ line_of edit
  more_lines =
      ap lines_of more ∙ flat_map-append line_of before (edit ∷ [])
      ∙ ap (λ (l : List ℕ). lines_of before ++ l) (flat_map-cons line_of edit [] ∙ append-nil (line_of edit))

  -- its line follows theirs
  pub one_line_more : (old text new : List ℕ) → text ≡ old ++ lines_of before → new ≡ text ++ line_of edit
      → new ≡ old ++ lines_of (edits_of (take (i + 1) records))
  one_line_more old text new so_far line =
      line ∙ ap (λ (l : List ℕ). l ++ line_of edit) so_far ∙ append_assoc old (lines_of before) (line_of edit)
      ∙ ap (λ (l : List ℕ). old ++ l) (sym more_lines)
