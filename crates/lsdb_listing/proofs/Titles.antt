-- One title after another.
use Rattle.std.proofs.Common.{◌≡◌, ℕ, suc, ◌+◌, ◌<◌, ◌≤◌, List, ◌∷◌, length, get_or, drop, add-one, Option, Some, None, refl, sym, ap, ◌∙◌}
use Rattle.std.proofs.lemmas.List.{drop_all}
use Rattle.std.proofs.Math.Seq.{drop-cons}
use Rattle.frr_text.specs.Rules.{or_else}
use Rattle.lsdb_listing.specs.declared.heading.Heading.{Heading}
use Rattle.lsdb_listing.specs.declared.title.Title.{Title}
use Rattle.lsdb_listing.specs.Headings.{table_as, table_among}
use Rattle.lsdb_listing.specs.Lines.{Line}

step : (title : Title) (others : List Title) (line : Line)
    → table_among (title ∷ others) line ≡ or_else (table_as title line) (table_among others line)
unfolding table_among
step title others line = refl

at : (titles : List Title) (i : ℕ) (d : Title) (line : Line) → i < length titles
    → table_among (drop i titles) line ≡ or_else (table_as (get_or titles i d) line) (table_among (drop (i + 1) titles) line)
at titles i d line lt =
    ap (λ (ts : List Title). table_among ts line) (drop-cons titles i d lt) ∙ step (get_or titles i d) (drop (suc i) titles) line
    ∙ ap (λ (n : ℕ). or_else (table_as (get_or titles i d) line) (table_among (drop n titles) line)) (sym (add-one i))

pub title_passed : (titles : List Title) (i : ℕ) (d : Title) (line : Line) → i < length titles → table_as (get_or titles i d) line ≡ None
    → table_among (drop i titles) line ≡ table_among (drop (i + 1) titles) line
title_passed titles i d line lt h =
    at titles i d line lt ∙ ap (λ (x : Option Heading). or_else x (table_among (drop (i + 1) titles) line)) h

pub title_found : (titles : List Title) (i : ℕ) (d : Title) (line : Line) (table : Heading) → i < length titles
    → table_as (get_or titles i d) line ≡ Some table → table_among (drop i titles) line ≡ Some table
title_found titles i d line table lt h =
    at titles i d line lt ∙ ap (λ (x : Option Heading). or_else x (table_among (drop (i + 1) titles) line)) h

pub title_missed : (titles : List Title) (i : ℕ) (line : Line) → length titles ≤ i → table_among (drop i titles) line ≡ None
unfolding table_among
title_missed titles i line le = ap (λ (ts : List Title). table_among ts line) (drop_all i titles le)
