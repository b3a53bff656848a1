-- What a list contains, one line after another.
use Rattle.std.proofs.Common.{◌≡◌, ℕ, Bool, List, [], ◌∷◌, ◌++◌, append_assoc, Option, refl, sym, ap, ◌∙◌}
use Rattle.std.specs.Prelude.{map, ◌||◌}
use Rattle.std.specs.List.{list_any, slice_split}
use Rattle.std.proofs.lemmas.List.{append-nil}
use Rattle.findings.specs.declared.part.Part.{Part}
use Rattle.frr_text.specs.Words.{words}
use Rattle.lsdb_listing.specs.declared.heading.Heading.{Heading}
use Rattle.lsdb_listing.specs.declared.line_kind.LineKind.{LineKind}
use Rattle.lsdb_listing.specs.Headings.{line_kind_of, heading_after}
use Rattle.lsdb_listing.specs.Lines.{Line, is_line_feed, lines}
use Rattle.lsdb_listing.specs.Sorting.{has_line}
use Rattle.lsdb_listing.specs.ParsedLines.{parsed_by, parsed_in}

-- ---- lines

pub first_line : (text line after : List ℕ) → slice_split is_line_feed text ≡ line ∷ slice_split is_line_feed after
    → lines text ≡ words line ∷ lines after
unfolding lines
first_line text line after e = ap (map words) e

pub last_line : (text line : List ℕ) → slice_split is_line_feed text ≡ line ∷ [] → lines text ≡ words line ∷ []
unfolding lines
last_line text line e = ap (map words) e

-- ---- what they contain

module _ {A : Type 0} where
  step : (heading : Option Heading) (line : Line) (others : List Line)
      → parsed_in {A = A} heading (line ∷ others) ≡ parsed_by heading line (line_kind_of line) ++ parsed_in (heading_after heading (line_kind_of line)) others
  unfolding parsed_in
  step heading line others = refl

  by_line_kind : (heading : Option Heading) (line_kind : LineKind) (line : Line) (here others : List Line) → here ≡ line ∷ others → line_kind ≡ line_kind_of line
      → parsed_by {A = A} heading line line_kind ++ parsed_in (heading_after heading line_kind) others ≡ parsed_in heading here
  by_line_kind heading line_kind line here others e m =
      ap (λ (x : LineKind). parsed_by {A = A} heading line x ++ parsed_in (heading_after heading x) others) m ∙ sym (step heading line others)
      ∙ ap (parsed_in heading) (sym e)

  pub parsed_next : (before after all : List (Part A)) (heading next : Option Heading) (line_kind : LineKind) (line : Line) (here others : List Line)
      → here ≡ line ∷ others → line_kind ≡ line_kind_of line → after ≡ before ++ parsed_by heading line line_kind → next ≡ heading_after heading line_kind
      → before ++ parsed_in heading here ≡ all → after ++ parsed_in next others ≡ all
  parsed_next before after all heading next line_kind line here others e m added n h =
      ap (λ (x : List (Part A)). x ++ parsed_in next others) added ∙ append_assoc before (parsed_by heading line line_kind) (parsed_in next others)
      ∙ ap (λ (rest : List (Part A)). before ++ rest)
      (ap (λ (x : Option Heading). parsed_by heading line line_kind ++ parsed_in x others) n ∙ by_line_kind heading line_kind line here others e m)
      ∙ h

  nothing : (heading : Option Heading) → parsed_in {A = A} heading [] ≡ []
  unfolding parsed_in
  nothing heading = refl

  pub parsed_last : (before after all : List (Part A)) (heading : Option Heading) (line_kind : LineKind) (line : Line) (here : List Line)
      → here ≡ line ∷ [] → line_kind ≡ line_kind_of line → after ≡ before ++ parsed_by heading line line_kind → before ++ parsed_in heading here ≡ all → after ≡ all
  parsed_last before after all heading line_kind line here e m added h =
      sym (append-nil after) ∙ ap (λ (rest : List (Part A)). after ++ rest) (sym (nothing (heading_after heading line_kind)))
      ∙ parsed_next before after all heading (heading_after heading line_kind) line_kind line here [] e m added refl h

-- ---- whether a line of this kind stands there

any_mapped : (test : Line → Bool) (parts : List (List ℕ)) → list_any test (map words parts) ≡ list_any (λ line. test (words line)) parts
any_mapped test [] = refl
any_mapped test (part ∷ parts) = ap (λ (b : Bool). test (words part) || b) (any_mapped test parts)

pub any_line : (test : Line → Bool) (text : List ℕ)
    → has_line test (lines text) ≡ list_any (λ line. test (words line)) (slice_split is_line_feed text)
unfolding has_line lines
any_line test text = any_mapped test (slice_split is_line_feed text)
