-- The LSAs of a packet, one after another.
use Rattle.std.proofs.Common.{◌≡◌, ℕ, suc, ◌+◌, ◌-◌, ◌<◌, ◌≤◌, List, [], ◌∷◌, ◌++◌, take, drop, Ok, Err, sym, ap, ◌∙◌}
use Rattle.std.proofs.Common.{append_assoc, arith}
use Rattle.findings.specs.declared.frame_warning.FrameWarning.{FrameWarning}
use Rattle.findings.specs.declared.part.Part.{Part}
use Rattle.findings.specs.declared.part.Part.TheVariants as contents
use Rattle.ospf_packets.specs.declared.update.Flooded.{Flooded}
use Rattle.ospf_packets.specs.Updates.{lsa_length, parsed_lsa, first_parsed, uncounted, parsed_lsas}

opened : {A : Type 0} (n i : ℕ) (by : Flooded) (bytes : List ℕ) → i < n
    → parsed_lsas {A = A} by (n - i) bytes ≡ first_parsed by bytes (λ rest. parsed_lsas by (n - (i + 1)) rest) (lsa_length by.whole bytes)
unfolding parsed_lsas
opened {A} n i by bytes lt =
    let k : n - i ≡ suc (n - (i + 1)) = omega arith in
    ap (λ m. parsed_lsas {A = A} by m bytes) k

pub one_more : {A : Type 0} (parsed : List (Part A)) (n i : ℕ) (by : Flooded) (bytes : List ℕ) (size : ℕ) (all : List (Part A)) → i < n
    → lsa_length by.whole bytes ≡ Ok size → parsed ++ parsed_lsas by (n - i) bytes ≡ all
    → (parsed ++ parsed_lsa by (take size bytes) ∷ []) ++ parsed_lsas by (n - (i + 1)) (drop size bytes) ≡ all
one_more {A} parsed n i by bytes size all lt is h =
    append_assoc parsed (parsed_lsa by (take size bytes) ∷ []) (parsed_lsas by (n - (i + 1)) (drop size bytes))
    ∙ ap (λ r. parsed ++ first_parsed {A = A} by bytes (λ rest. parsed_lsas by (n - (i + 1)) rest) r) (sym is)
    ∙ ap (λ t. parsed ++ t) (sym (opened n i by bytes lt)) ∙ h

pub stopped : {A : Type 0} (parsed : List (Part A)) (n i : ℕ) (by : Flooded) (bytes : List ℕ) (warning : FrameWarning) (all : List (Part A)) → i < n
    → lsa_length by.whole bytes ≡ Err warning → parsed ++ parsed_lsas by (n - i) bytes ≡ all → parsed ++ contents.Warning warning ∷ [] ≡ all
stopped {A} parsed n i by bytes warning all lt is h =
    ap (λ r. parsed ++ first_parsed {A = A} by bytes (λ rest. parsed_lsas by (n - (i + 1)) rest) r) (sym is)
    ∙ ap (λ t. parsed ++ t) (sym (opened n i by bytes lt)) ∙ h

pub all_parsed : {A : Type 0} (parsed : List (Part A)) (n i : ℕ) (by : Flooded) (bytes : List ℕ) (all : List (Part A)) → n ≤ i
    → parsed ++ parsed_lsas by (n - i) bytes ≡ all → parsed ++ uncounted bytes ≡ all
unfolding parsed_lsas
all_parsed {A} parsed n i by bytes all le h =
    let k : n - i ≡ 0 = omega arith in
    ap (λ m. parsed ++ parsed_lsas {A = A} by m bytes) (sym k) ∙ h
