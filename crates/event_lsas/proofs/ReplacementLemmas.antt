-- Which LSAs can take the place of others, and which do.
use Rattle.std.proofs.Common.{◌≡◌, ◌≤◌, ◌<◌, ℕ, Bool, true, false, cond, List, [], ◌++◌, length, drop, ◌&&◌, Option, Some, None, Result, Ok, Err, refl, sym, ap, ◌∙◌, subst, arith}
use Rattle.std.specs.Prelude.{◌==◌, nat_le}
use Rattle.std.proofs.lemmas.Bool.{and_parts, eqb-true, eq-eqb, leb-true}
use Rattle.std.proofs.lemmas.List.{append-nil, drop_all}
use Rattle.lsa_codec.specs.declared.fault.LsaFault.{LsaFault}
use Rattle.lsa_codec.specs.Accepted.{IsAccepted}
use Rattle.lsa_codec.specs.Decoding.{decoded}
use Rattle.lsa_codec.specs.Fields.{length_of}
use Rattle.lsa_codec.specs.Key.{key_of}
use Rattle.lsa_codec.specs.Making.{IsRewriteOf}
use Rattle.lsa_codec.proofs.LsaLemmas.{decoded_again, decoded_front}
use Rattle.lsdb.specs.Lists.{AreaHead, Lists, same_key}
use Rattle.lsdb.specs.Slots.{Slot}
use Rattle.lsdb.proofs.KeyLemmas.{same_key_true}
use Rattle.lsa_remaking.specs.declared.link_change.LinkChange.{LinkChange}
use Rattle.lsa_codec.specs.declared.link.Link.{Link}
use Rattle.event_links.specs.declared.selection.LinkEdit.{LinkEdit}
use Rattle.event_links.specs.Selections.{chosen_in, chosen_of, id_of}
use Rattle.event_lsas.specs.LinkEvents.{outcome_of}
use Rattle.event_lsas.specs.Outcomes.{LsaChange, kept, becomes, is_all_of, is_accepted, can_replace, replaced, unless_empty, with_chosen, relinked_where}

-- ---- the test of bytes

-- an accepted LSA passes it
pub accepted_true : (lsa : List ℕ) → IsAccepted lsa → is_accepted lsa ≡ true
accepted_true lsa good =
    let found : decoded lsa ≡ Ok lsa = ap decoded (sym (append-nil lsa)) ∙ decoded_again lsa [] good in
    ap (λ (b : Bool). b && is_all_of lsa (decoded lsa)) (eq-eqb (length_of lsa) (length lsa) good.length)
    ∙ ap (is_all_of lsa) found ∙ eq-eqb (length lsa) (length lsa) refl

-- what passes it is one
pub accepted_of : (bytes : List ℕ) → length bytes < 65536 → is_accepted bytes ≡ true → IsAccepted bytes
accepted_of bytes short is =
    let parts = and_parts (length_of bytes == length bytes) (is_all_of bytes (decoded bytes)) is in
    by_answer (decoded bytes) refl (eqb-true (length_of bytes) (length bytes) parts.0) parts.1 where
      by_answer : (r : Result (List ℕ) LsaFault) → decoded bytes ≡ r → length_of bytes ≡ length bytes → is_all_of bytes r ≡ true → IsAccepted bytes
      by_answer (Ok lsa) found measured all =
          let front = decoded_front bytes lsa (omega arith) found in
          let same : length lsa ≡ length bytes = eqb-true (length lsa) (length bytes) all in
          let rest : drop (length lsa) bytes ≡ [] = drop_all (length lsa) bytes (omega arith) in
          subst IsAccepted (sym (front.parts ∙ ap (λ (xs : List ℕ). lsa ++ xs) rest ∙ append-nil lsa)) front.accepted
      by_answer (Err fault) found measured all = absurd cc

-- ---- the test of two LSAs

-- an LSA that can take the place of another is one made from it
pub can_replace_safe : (old new : List ℕ) → IsAccepted old → can_replace old new ≡ true → IsRewriteOf old new
can_replace_safe old new good is =
    let parts = and_parts (is_accepted new) (same_key (key_of new) (key_of old) && nat_le (length new) (length old)) is in
    let two = and_parts (same_key (key_of new) (key_of old)) (nat_le (length new) (length old)) parts.1 in
    let size : length new ≤ length old = leb-true (length new) (length old) two.1 in
    record {
      accepted = accepted_of new (omega (arith, size, good.short)) parts.0;
      key = same_key_true (key_of new) (key_of old) two.0;
      size = size;
    }

-- ---- what becomes of LSAs

replaced_safe : (old new : List ℕ) (slot : Slot) → IsAccepted old → replaced old slot ≡ becomes (Some new) → IsRewriteOf old new
replaced_safe old new None good is = absurd cc
replaced_safe old new (Some made) good is = by_test (can_replace old made) refl is where
  by_test : (b : Bool) → can_replace old made ≡ b → cond b (becomes (Some made)) kept ≡ becomes (Some new) → IsRewriteOf old new
  by_test true can e = let same : made ≡ new = cc in subst (IsRewriteOf old) same (can_replace_safe old made good can)
  by_test false can e = absurd cc

relinked_safe : (change : LinkChange) (chosen : List Link) (old new : List ℕ) → IsAccepted old → relinked_where change chosen old ≡ becomes (Some new)
    → IsRewriteOf old new
relinked_safe change chosen old new good is = by_test (length chosen == 0) is where
  made : Slot
  made = unless_empty (with_chosen change chosen old) old

  by_test : (b : Bool) → cond b kept (replaced old made) ≡ becomes (Some new) → IsRewriteOf old new
  by_test true e = absurd cc
  by_test false e = replaced_safe old new made good e

-- the LSA that an event makes of another is one made from it
pub outcome_safe : (db : Lists) (edit : LinkEdit) (head : Option AreaHead) (old new : List ℕ) → IsAccepted old
    → outcome_of db edit head old ≡ becomes (Some new) → IsRewriteOf old new
outcome_safe db edit None old new good is = absurd cc
outcome_safe db edit (Some head) old new good is =
    relinked_safe edit.change (chosen_of (chosen_in db (id_of head) edit.selection) old) old new good is
