-- Values, byte by byte.
use Rattle.std.proofs.Common.{◌≡◌, ℕ, ◌+◌, ◌-◌, ◌<◌, ◌≤◌, true, false, List, [], ◌∷◌}
use Rattle.std.proofs.Common.{◌++◌, length, get_or, take, drop, refl, sym, ap, ◌∙◌, add-one, append_assoc, arith}
use Rattle.std.proofs.Math.Seq.{drop-cons, take-length}
use Rattle.std.proofs.lemmas.List.{take_more, take_all, drop_all, append-nil, length-drop}
use Rattle.snmp_walk.specs.Objects.{ends_value, value_in}

ended : (text : List ℕ) → ends_value text ≡ true → value_in text ≡ []
unfolding value_in
ended [] h = refl
ended (byte ∷ text) h = rw h refl

goes_on : (byte : ℕ) (text : List ℕ) → ends_value (byte ∷ text) ≡ false → value_in (byte ∷ text) ≡ byte ∷ value_in text
unfolding value_in
goes_on byte text h = rw h refl

value_nil : value_in [] ≡ []
unfolding value_in
value_nil = refl

-- what stands from an index on, as the code takes it
pub rest_at : (text : List ℕ) (i : ℕ) → take (length text - i) (drop i text) ≡ drop i text
rest_at text i = take_all _ (drop i text) (omega (arith, length-drop i text))

pub value_ends : (text : List ℕ) (i : ℕ) → ends_value (drop i text) ≡ true → take i text ++ value_in (drop i text) ≡ value_in text → take i text ≡ value_in text
value_ends text i h e = sym (append-nil (take i text)) ∙ ap (λ v. take i text ++ v) (sym (ended (drop i text) h)) ∙ e

pub value_next : (text : List ℕ) (i : ℕ) → i < length text → ends_value (drop i text) ≡ false
    → take i text ++ value_in (drop i text) ≡ value_in text → take (i + 1) text ++ value_in (drop (i + 1) text) ≡ value_in text
value_next text i lt h e =
    let x : ℕ = get_or text i 0 in
    let cut : drop i text ≡ x ∷ drop (i + 1) text = rw (add-one, drop-cons text i 0) refl in
    let on : value_in (drop i text) ≡ x ∷ value_in (drop (i + 1) text) =
    ap value_in cut ∙ goes_on x (drop (i + 1) text) (ap ends_value (sym cut) ∙ h) in
    ap (λ t. t ++ value_in (drop (i + 1) text)) (take_more text i 0 lt)
    ∙ append_assoc (take i text) (x ∷ []) (value_in (drop (i + 1) text))
    ∙ ap (λ v. take i text ++ v) (sym on) ∙ e

pub value_whole : (text : List ℕ) (i : ℕ) → length text ≤ i → take i text ++ value_in (drop i text) ≡ value_in text → take (length text) text ≡ value_in text
value_whole text i le e =
    take-length text ∙ sym (append-nil text)
    ∙ ap (λ t. t ++ []) (sym (take_all i text le))
    ∙ ap (λ v. take i text ++ v) (sym (ap value_in (drop_all i text le) ∙ value_nil)) ∙ e
