-- What a text contains, one word after another.
use Rattle.std.proofs.Common.{◌≡◌, Bool, true, false, List, [], ◌∷◌, ◌++◌, append_assoc, Option, refl, sym, ap, ◌∙◌}
use Rattle.std.specs.Prelude.{◌||◌}
use Rattle.std.proofs.lemmas.List.{append-nil}
use Rattle.lsa_codec.specs.declared.address.AreaId.{AreaId}
use Rattle.findings.specs.declared.part.Part.{Part}
use Rattle.frr_text.specs.Words.{Word}
use Rattle.frr_text.specs.Headings.{area_at, begins_here, is_printed}
use Rattle.frr_text.specs.ParsedParts.{kinds_at, lsas_at, parsed_at, parsed_in}

module _ {A : Type 0} where
  step : (area : Option AreaId) (word : Word) (text : List Word)
      → parsed_in {A = A} area (word ∷ text) ≡ parsed_at (area_at area (word ∷ text)) (word ∷ text) ++ parsed_in (area_at area (word ∷ text)) text
  unfolding parsed_in
  step area word text = refl

  pub parsed_next : (before between after all : List (Part A)) (area next : Option AreaId) (here : List Word) (word : Word) (text : List Word)
      → between ≡ before ++ kinds_at here → after ≡ between ++ lsas_at next here → next ≡ area_at area here → here ≡ word ∷ text
      → before ++ parsed_in area here ≡ all → after ++ parsed_in next text ≡ all
  parsed_next before between after all area next here word text kinds lsas same e h =
      let added : after ≡ before ++ parsed_at next here =
      lsas ∙ ap (λ (x : List (Part A)). x ++ lsas_at next here) kinds ∙ append_assoc before (kinds_at here) (lsas_at next here) in
      ap (λ (x : List (Part A)). x ++ parsed_in next text) added
      ∙ append_assoc before (parsed_at next here) (parsed_in next text)
      ∙ ap (λ (rest : List (Part A)). before ++ rest)
      (ap (λ (n : Option AreaId). parsed_at n here ++ parsed_in n text) same
      ∙ ap (λ (x : List Word). parsed_at (area_at area x) x ++ parsed_in (area_at area x) text) e ∙ sym (step area word text)
      ∙ ap (parsed_in area) (sym e))
      ∙ h

  nothing : (area : Option AreaId) → parsed_in {A = A} area [] ≡ []
  unfolding parsed_in
  nothing area = refl

  pub parsed_end : (before all : List (Part A)) (area : Option AreaId) (here : List Word) → here ≡ [] → before ++ parsed_in area here ≡ all
      → before ≡ all
  parsed_end before all area here e h =
      sym (append-nil before) ∙ ap (λ (rest : List (Part A)). before ++ rest) (sym (nothing area) ∙ ap (parsed_in area) (sym e)) ∙ h

-- ---- whether it is printed

printed_step : (word : Word) (text : List Word) → is_printed (word ∷ text) ≡ (begins_here (word ∷ text) || is_printed text)
unfolding is_printed
printed_step word text = refl

printed_at : (here : List Word) (word : Word) (text : List Word) → here ≡ word ∷ text → is_printed here ≡ (begins_here here || is_printed text)
printed_at here word text e = ap is_printed e ∙ printed_step word text ∙ ap (λ (x : List Word). begins_here x || is_printed text) (sym e)

pub printed_here : (here : List Word) (word : Word) (text : List Word) → here ≡ word ∷ text → begins_here here ≡ true → is_printed here ≡ true
printed_here here word text e h = printed_at here word text e ∙ ap (λ (b : Bool). b || is_printed text) h

pub printed_later : (here : List Word) (word : Word) (text : List Word) → here ≡ word ∷ text → begins_here here ≡ false
    → is_printed here ≡ is_printed text
printed_later here word text e h = printed_at here word text e ∙ ap (λ (b : Bool). b || is_printed text) h

pub printed_nowhere : (here : List Word) → here ≡ [] → is_printed here ≡ false
unfolding is_printed
printed_nowhere here e = ap is_printed e
