-- What is decoded of bytes whose length field is their length: all of them.
use Rattle.std.proofs.Common.{◌≡◌, ◌≤◌, ◌<◌, ℕ, ◌+◌, ◌-◌, List, ◌++◌, length, take, drop, get_or, refl, sym, ap, arith, ◌∙◌, Ok}
use Rattle.std.proofs.lemmas.List.{take_at, length-append, length-take, length-drop, drop_all, append-nil, get_or_append_left, get_or-append_right, get_or-drop}
use Rattle.byteorder.specs.Endian.{big_bytes}
use Rattle.lsa_codec.specs.Fields.{length_of, put_at, put_number}
use Rattle.lsa_codec.specs.Checksum.{with_checksum, checksum_for, checked_bytes, without_checksum}
use Rattle.lsa_codec.specs.Decoding.{decoded}
use Rattle.lsa_codec.proofs.LsaLemmas.{decoded_front}
use Rattle.lsa_remaking.specs.Making.{remeasured}

length_front : (lsa rest : List ℕ) → 20 ≤ length lsa → length_of (lsa ++ rest) ≡ length_of lsa
length_front lsa rest long =
    rw (get_or_append_left lsa rest 0 18 (omega arith), get_or_append_left lsa rest 0 19 (omega arith)) refl

pub whole : (bytes lsa : List ℕ) → length_of bytes ≡ length bytes → length bytes < 65536 → decoded bytes ≡ Ok lsa → lsa ≡ bytes
whole bytes lsa field short e =
    let front = decoded_front bytes lsa (omega (arith, field)) e in
    let size : length lsa ≡ length bytes =
    sym front.accepted.length ∙ sym (length_front lsa (drop (length lsa) bytes) front.accepted.header) ∙ ap length_of (sym front.parts) ∙ field in
    sym (front.parts ∙ ap (λ (rest : List ℕ). lsa ++ rest) (drop_all (length lsa) bytes (omega arith)) ∙ append-nil lsa)

-- bytes after those that were written
past : (offset j : ℕ) (field bytes : List ℕ) → offset + length field ≤ length bytes → offset + length field ≤ j
    → get_or (put_at offset field bytes) j 0 ≡ get_or bytes j 0
past offset j field bytes fits le =
    let n : ℕ = offset + length field in
    let long : length (take offset bytes ++ field) ≡ n = omega (arith, length-append (take offset bytes) field, length-take offset bytes) in
    get_or-append_right (take offset bytes ++ field) (drop n bytes) n j 0 long le
    ∙ get_or-drop n bytes (j - n) 0 ∙ ap (λ (k : ℕ). get_or bytes k 0) (omega arith)

-- the bytes that were written
written : (offset j : ℕ) (field bytes : List ℕ) → offset + length field ≤ length bytes → j < length field
    → get_or (put_at offset field bytes) (offset + j) 0 ≡ get_or field j 0
written offset j field bytes fits lt =
    let short : length (take offset bytes) ≡ offset = omega (arith, length-take offset bytes) in
    let both = length-append (take offset bytes) field in
    get_or_append_left (take offset bytes ++ field) (drop (offset + length field) bytes) 0 (offset + j) (omega arith)
    ∙ get_or-append_right (take offset bytes) field offset (offset + j) 0 short (omega arith)
    ∙ ap (λ (k : ℕ). get_or field k 0) (omega arith)

-- the number of bytes stays
put_length : (offset : ℕ) (field bytes : List ℕ) → offset + length field ≤ length bytes → length (put_at offset field bytes) ≡ length bytes
put_length offset field bytes fits =
    let n : ℕ = offset + length field in
    let front : List ℕ = take offset bytes in
    omega (arith, length-append (front ++ field) (drop n bytes), length-append front field, length-take offset bytes, length-drop n bytes)

pub remeasured_length : (bytes : List ℕ) → 20 ≤ length bytes → length (remeasured bytes) ≡ length bytes
remeasured_length bytes long =
    let put : List ℕ = put_number 2 18 (length bytes) bytes in
    let sum : List ℕ = big_bytes 2 (checksum_for (checked_bytes (without_checksum put))) in
    let size : length put ≡ length bytes = put_length 18 (big_bytes 2 (length bytes)) bytes (omega arith) in
    put_length 16 sum put (omega arith) ∙ size

-- a length that is written stays where the checksum is set again
sized : (n : ℕ) (bytes : List ℕ) → 20 ≤ length bytes → n < 65536
    → length_of (with_checksum (put_number 2 18 n bytes)) ≡ n
sized n bytes long small =
    let put : List ℕ = put_number 2 18 n bytes in
    let sum : List ℕ = big_bytes 2 (checksum_for (checked_bytes (without_checksum put))) in
    let size : length put ≡ length bytes = put_length 18 (big_bytes 2 n) bytes (omega arith) in
    let high = past 16 18 sum put (omega arith) (omega arith) ∙ written 18 0 (big_bytes 2 n) bytes (omega arith) (omega arith) in
    let low = past 16 19 sum put (omega arith) (omega arith) ∙ written 18 1 (big_bytes 2 n) bytes (omega arith) (omega arith) in
    omega (arith, high, low)

pub remeasured_field : (bytes : List ℕ) → 20 ≤ length bytes → length bytes < 65536 → length_of (remeasured bytes) ≡ length bytes
remeasured_field bytes long short = sized (length bytes) bytes long short

-- the remeasured bytes, where they were written through a Vec of their number
pub written_through : (bytes new old : List ℕ) (n : ℕ) → 20 ≤ length bytes → new ≡ remeasured bytes → n ≡ length bytes
    → take n (new ++ drop (length new) old) ≡ remeasured bytes
written_through bytes new old n long made size =
    take_at new (drop (length new) old) n (ap length made ∙ remeasured_length bytes long ∙ sym size) ∙ made
