-- What is printed after a label is read after it.
use Rattle.std.proofs.Common.{◌≡◌, ℕ, true, eqb, List, [], ◌∷◌, ◌++◌, append_assoc, Option, Some, None, refl, ap, ◌∙◌}
use Rattle.std.specs.Prelude.{bytes_eq}
use Rattle.std.proofs.lemmas.Bool.{and_from, eq-eqb, cond-true}
use Rattle.frr_text.specs.declared.label.Label.{Label}
use Rattle.frr_text.specs.Words.{Word, words}
use Rattle.frr_text.specs.Rules.{◌>>=◌}
use Rattle.text_words.specs.Words.{after_words}
use Rattle.frr_text.specs.Labels.{text_of, after_label, first_word, word_after, value_after}
use Rattle.frr_text.specs.Printing.{label_words, said}

same_word : (word : Word) → bytes_eq word word ≡ true
same_word [] = refl
same_word (byte ∷ word) = and_from (eqb byte byte) (bytes_eq word word) (eq-eqb byte byte refl) (same_word word)

after_these : (front rest : List Word) → after_words front (front ++ rest) ≡ Some rest
unfolding after_words
after_these [] rest = refl
after_these (word ∷ front) rest =
    cond-true (bytes_eq word word) (after_words front (front ++ rest)) None (same_word word) ∙ after_these front rest

pub label_again : (label : Label) (rest : List Word) → after_label label (label_words label ++ rest) ≡ Some rest
unfolding after_label
label_again label rest = after_these (words (text_of label)) rest

pub word_again : (label : Label) (word : Word) (rest : List Word) → word_after label (said label word ++ rest) ≡ Some (word, rest)
unfolding word_after
word_again label word rest =
    ap (λ (text : List Word). after_label label text >>= first_word) (append_assoc (label_words label) (word ∷ []) rest)
    ∙ ap (λ (found : Option (List Word)). found >>= first_word) (label_again label (word ∷ rest))

pub value_again : (rule : Word → Option ℕ) (label : Label) (word : Word) (n : ℕ) (rest : List Word) → rule word ≡ Some n
    → value_after rule label (said label word ++ rest) ≡ Some (n, rest)
unfolding value_after
value_again rule label word n rest h =
    ap (λ (found : Option (Word × List Word)). found >>= (λ found. rule found.0 >>= (λ n. Some (n, found.1)))) (word_again label word rest)
    ∙ ap (λ (found : Option ℕ). found >>= (λ n. Some (n, rest))) h
