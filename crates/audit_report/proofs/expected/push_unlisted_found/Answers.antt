use Rattle.std.proofs.Common.{◌≡◌, ◌++◌, ◌∙◌, List, ℕ, ap, append_assoc, codes, decimal, length, sym, Result, OnOk}
use Rattle.std.proofs.lemmas.Result.{on_ok_weaker}
use Rattle.audit_report.specs.Expected.{counts_text}
use Rattle.audit_report.proofs.expected.push_unlisted_found.Goals as goal

-- a text, then a word with a number, and what follows them
after_two : {T E : Type 0} (result : Result T E) (old all word number rest first second last : List ℕ)
    → first ≡ old ++ all → second ≡ first ++ (word ++ number) → OnOk result (last ≡ second ++ rest)
    → OnOk result (last ≡ old ++ (all ++ word ++ number ++ rest))
after_two result old all word number rest first second last one two pushed =
    on_ok_weaker result
    (λ is. is ∙ ap (λ (l : List ℕ). l ++ rest) (two ∙ ap (λ (l : List ℕ). l ++ (word ++ number)) one
    ∙ append_assoc old all (word ++ number) ∙ ap (λ (l : List ℕ). old ++ l) (sym (append_assoc all word number)))
    ∙ append_assoc old (all ++ word ++ number) rest)
    pushed

pub returns : goal.returns
returns g c =
    after_two c.push_counts.result c.args.text.now.items (codes "wrong " ++ decimal (length c.args.counts.now)) (codes ", not listed ")
    (decimal (length c.args.others.now)) (counts_text c.args.others.now) _ _ _
    c.in_ok-push_number_after.ensures c.in_ok-push_number_after-2.ensures c.push_counts.ensures
