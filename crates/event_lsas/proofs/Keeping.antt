-- An LSA whose new bytes would not be accepted is kept.
use Rattle.std.proofs.Common.{◌≡◌, ◌≤◌, ◌<◌, ℕ, ◌+◌, Bool, true, false, cond, ltb, List, ◌++◌, length, take, drop, ◌&&◌, Some, None, Result, Ok, Err, refl, sym, ap, ◌∙◌, arith, inl, inr}
use Rattle.std.specs.Prelude.{◌==◌, nat_le}
use Rattle.std.proofs.lemmas.Bool.{cases_Bool, cond-false, lt-leb, ltb-true}
use Rattle.std.proofs.lemmas.List.{length-append, length-take, length-drop}
use Rattle.std.specs.List.{flat_map}
use Rattle.byteorder.specs.Endian.{big_bytes}
use Rattle.lsa_codec.specs.declared.fault.LsaFault.{LsaFault}
use Rattle.lsa_codec.specs.Accepted.{IsAccepted, longest_lsa}
use Rattle.lsa_codec.specs.Checksum.{checksum_for, checked_bytes, without_checksum}
use Rattle.lsa_codec.specs.Decoding.{decoded}
use Rattle.lsa_codec.specs.Fields.{kind_of, length_of, put_at, put_number}
use Rattle.lsa_codec.specs.Key.{key_of}
use Rattle.lsdb.specs.Lists.{same_key}
use Rattle.lsdb.specs.Slots.{Slot}
use Rattle.lsa_remaking.specs.declared.fault.RemakeFault.{RemakeFault}
use Rattle.lsa_remaking.specs.declared.fault.RemakeFault.TheVariants.{TooLong, Rejected, OutOfMemory}
use Rattle.lsa_remaking.specs.declared.link_change.ChangedLink.{ChangedLink}
use Rattle.lsa_remaking.specs.Making.{accepted_or_rejected, made, remeasured, IsRemakeFaultOf}
use Rattle.lsa_remaking.specs.Relinking.{changed_body, changed_text, count_left, counted_body, relinked, relinking}
use Rattle.event_lsas.specs.Outcomes.{LsaChange, kept, becomes, is_all_of, is_accepted, can_replace, replaced, unless_empty}
use Rattle.event_lsas.specs.steps.Keeping.{IsKeptFor}
use Rattle.event_lsas.proofs.RouterLinks.{long}

-- ---- lengths

put_length : (offset : ℕ) (field bytes : List ℕ) → offset + length field ≤ length bytes → length (put_at offset field bytes) ≡ length bytes
put_length offset field bytes fits =
    let end : ℕ = offset + length field in
    omega (
      arith,
      length-append (take offset bytes ++ field) (drop end bytes),
      length-append (take offset bytes) field,
      length-take offset bytes,
      length-drop end bytes,
    )

remeasured_length : (bytes : List ℕ) → 20 ≤ length bytes → length (remeasured bytes) ≡ length bytes
remeasured_length bytes long =
    let sized : List ℕ = put_number 2 18 (length bytes) bytes in
    let checksum : List ℕ = big_bytes 2 (checksum_for (checked_bytes (without_checksum sized))) in
    let size : length sized ≡ length bytes = put_length 18 (big_bytes 2 (length bytes)) bytes (omega arith) in
    put_length 16 checksum sized (omega arith) ∙ size

counted_length : (links : List ChangedLink) (lsa : List ℕ) → 24 ≤ length lsa → 24 ≤ length (counted_body links lsa)
counted_length links lsa long =
    let body : List ℕ = changed_body links lsa in
    let size : 24 ≤ length body = omega (arith, length-append (take 24 lsa) (flat_map (changed_text lsa) links), length-take 24 lsa) in
    omega (arith, put_length 22 (big_bytes 2 (count_left links)) body (omega arith))

-- ---- tests that fail

and_no : (b : Bool) → (b && false) ≡ false
and_no true = refl
and_no false = refl

-- an LSA takes the place of none that is shorter
too_long : (old new : List ℕ) → length old < length new → can_replace old new ≡ false
too_long old new longer =
    let larger : nat_le (length new) (length old) ≡ false = lt-leb (length new) (length old) longer in
    ap (λ (b : Bool). is_accepted new && (same_key (key_of new) (key_of old) && b)) larger
    ∙ ap (λ (b : Bool). is_accepted new && b) (and_no (same_key (key_of new) (key_of old))) ∙ and_no (is_accepted new)

-- what is rejected takes the place of none
rejected : (old new : List ℕ) (fault : RemakeFault) → accepted_or_rejected (decoded new) ≡ Err fault → can_replace old new ≡ false
rejected old new fault is =
    ap (λ (b : Bool). b && (same_key (key_of new) (key_of old) && nat_le (length new) (length old))) (by_answer (decoded new) refl is) where
      by_answer : (r : Result (List ℕ) LsaFault) → decoded new ≡ r → accepted_or_rejected r ≡ Err fault → is_accepted new ≡ false
      by_answer (Ok lsa) found e = absurd cc
      by_answer (Err other) found e =
          ap (λ (s : Result (List ℕ) LsaFault). (length_of new == length new) && is_all_of new s) found ∙ and_no (length_of new == length new)

-- bytes that make no LSA
cannot_replace : (old body : List ℕ) (fault : RemakeFault) → IsAccepted old → 20 ≤ length body → made body ≡ Err fault
    → can_replace old (remeasured body) ≡ false
cannot_replace old body fault good long is =
    elim (cases_Bool (ltb longest_lsa (length body))) [
      | inl over ↦ too_long old (remeasured body) (omega (arith, ltb-true longest_lsa (length body) over, remeasured_length body long, good.short))
      | inr fits ↦ rejected old (remeasured body) fault
          (sym (cond-false (ltb longest_lsa (length body)) (Err TooLong) (accepted_or_rejected (decoded (remeasured body))) fits) ∙ is)
    ]

-- ---- the LSA

kept_where : (links : List ChangedLink) (lsa : List ℕ) (fault : RemakeFault) → IsAccepted lsa → 24 ≤ length lsa → (count_left links == 0) ≡ false
    → relinking links lsa ≡ Err fault → replaced lsa (unless_empty links lsa) ≡ kept
kept_where links lsa fault good long left is =
    let body : List ℕ = counted_body links lsa in
    let new : List ℕ = relinked links lsa in
    let slot : unless_empty links lsa ≡ Some new = cond-false (count_left links == 0) None (Some new) left in
    ap (replaced lsa) slot
    ∙ cond-false (can_replace lsa new) (becomes (Some new)) kept
    (cannot_replace lsa body fault good (omega (arith, counted_length links lsa long)) is)

-- a router-LSA is kept for the fault for which it cannot be rebuilt
pub kept_for : (links : List ChangedLink) (lsa : List ℕ) (fault : RemakeFault) → IsAccepted lsa → kind_of lsa ≡ 1 → (count_left links == 0) ≡ false
    → IsRemakeFaultOf fault (relinking links lsa) → IsKeptFor fault (replaced lsa (unless_empty links lsa))
kept_for links lsa TooLong good kind left is = kept_where links lsa TooLong good (long lsa good kind) left is
kept_for links lsa (Rejected fault) good kind left is = kept_where links lsa (Rejected fault) good (long lsa good kind) left is
kept_for links lsa OutOfMemory good kind left is = tt
