use Rattle.std.proofs.Common.{◌≡◌, ◌++◌, List, drop, sym, ap, ◌∙◌}
use Rattle.std.proofs.lemmas.Slice.Eq.{bytes_eq-Decides}
use Rattle.lsa_changes.specs.declared.change.LsaChange.{LsaChange}
use Rattle.lsa_changes.specs.Changes.{lsa_changes}
use Rattle.lsa_changes.proofs.SameLsaLemmas.{same_content}
use Rattle.lsa_changes.proofs.change.lsa_changes.Goals as goal
use Rattle.lsa_changes.proofs.change.lsa_changes.Goals.{then-not-is_same_content+in_ok-push_changes, else-not-is_same_content}

pub returns : goal.returns
returns g c =
    let before = c.args.before.now in
    let now = c.args.now.now in
    elim c.if-not-is_same_content.branch [
      | then-not-is_same_content+in_ok-push_changes w ↦
          ap (λ v. v.items) w.changes-is ∙ w.in_ok-push_changes.ensures ∙ ap (λ (l : List LsaChange). l ++ lsa_changes before now) c.new-changes.ensures.items
      | else-not-is_same_content w ↦ (
          let one = c.bytes.result.now in
          let other = c.bytes-2.result.now in
          let alike : drop 20 one ≡ drop 20 other = (bytes_eq-Decides (drop 20 one) (drop 20 other)).0 (sym c.is_same_content.ensures ∙ w.if-not-is_same_content.false) in
          ap (λ v. v.items) w.changes-is ∙ c.new-changes.ensures.items
          ∙ sym (same_content before now (ap (drop 20) (sym c.bytes.ensures.bytes) ∙ alike ∙ ap (drop 20) c.bytes-2.ensures.bytes)))
    ]
