-- LSA headers, one after another.
use Rattle.std.proofs.Common.{◌≡◌, ℕ, ◌+◌, ◌-◌, ◌*◌, ◌/◌, ◌≤◌, List, [], ◌∷◌, ◌++◌, length, map, take, drop, sym, ap, ◌∙◌}
use Rattle.std.proofs.Common.{append_assoc, arith}
use Rattle.std.specs.List.{range_with_len}
use Rattle.std.proofs.lemmas.List.FromFn.{map-range_with_len_more}
use Rattle.lsa_codec.specs.declared.address.AreaId.{AreaId}
use Rattle.lsa_instances.specs.declared.header.Header.{Header}
use Rattle.findings.specs.declared.part.Part.{Part}
use Rattle.findings.specs.declared.part.Part.TheVariants as contents
use Rattle.ospf_packets.specs.Headers.{header_in, parsed_header, whole_headers}
use Rattle.ospf_packets.proofs.Slices.{rest_at}

-- the first n headers
abbrev pub first_headers : {A : Type 0} → AreaId → List ℕ → ℕ → List (Part A)
first_headers area bytes n = map (parsed_header area bytes) (range_with_len 0 n)

pub one_more : {A : Type 0} (before parsed : List (Part A)) (area : AreaId) (bytes : List ℕ) (i : ℕ) (header : Header)
    → parsed ≡ before ++ first_headers area bytes i → header ≡ header_in area (take (length bytes - 20 * i) (drop (20 * i) bytes))
    → parsed ++ contents.Header header ∷ [] ≡ before ++ first_headers area bytes (i + 1)
one_more {A} before parsed area bytes i header h is =
    let f : ℕ → Part A = parsed_header area bytes in
    ap (λ t. t ++ contents.Header header ∷ []) h
    ∙ append_assoc before (first_headers area bytes i) (contents.Header header ∷ [])
    ∙ ap (λ x. before ++ (first_headers {A = A} area bytes i ++ contents.Header x ∷ [])) (is ∙ ap (header_in area) (rest_at bytes (20 * i)))
    ∙ ap (λ t. before ++ t) (sym (map-range_with_len_more f 0 i i (omega arith)))

pub all_headers : {A : Type 0} (before parsed : List (Part A)) (area : AreaId) (bytes : List ℕ) (i : ℕ) → i ≤ length bytes / 20
    → length bytes / 20 ≤ i → parsed ≡ before ++ first_headers area bytes i → parsed ≡ before ++ whole_headers area bytes
all_headers {A} before parsed area bytes i le ge h =
    let same : i ≡ length bytes / 20 = omega arith in
    h ∙ ap (λ n. before ++ first_headers {A = A} area bytes n) same
