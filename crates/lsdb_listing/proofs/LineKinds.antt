-- The words of a heading, one word after another.
use Rattle.std.proofs.Common.{◌≡◌, Bool, true, false, [], ◌∷◌, refl, sym, ap, ◌∙◌}
use Rattle.std.specs.Prelude.{◌||◌}
use Rattle.frr_text.specs.Words.{Word}
use Rattle.lsdb_listing.specs.Headings.{is_heading_word, has_heading_word}
use Rattle.lsdb_listing.specs.Lines.{Line}

step : (word : Word) (line : Line) → has_heading_word (word ∷ line) ≡ (is_heading_word (word ∷ line) || has_heading_word line)
unfolding has_heading_word
step word line = refl

at : (here : Line) (word : Word) (line : Line) → here ≡ word ∷ line → has_heading_word here ≡ (is_heading_word here || has_heading_word line)
at here word line e = ap has_heading_word e ∙ step word line ∙ ap (λ (x : Line). is_heading_word x || has_heading_word line) (sym e)

pub word_here : (here : Line) (word : Word) (line : Line) → here ≡ word ∷ line → is_heading_word here ≡ true → has_heading_word here ≡ true
word_here here word line e h = at here word line e ∙ ap (λ (b : Bool). b || has_heading_word line) h

pub word_later : (here : Line) (word : Word) (line : Line) → here ≡ word ∷ line → is_heading_word here ≡ false
    → has_heading_word here ≡ has_heading_word line
word_later here word line e h = at here word line e ∙ ap (λ (b : Bool). b || has_heading_word line) h

pub word_nowhere : (here : Line) → here ≡ [] → has_heading_word here ≡ false
unfolding has_heading_word
word_nowhere here e = ap has_heading_word e
