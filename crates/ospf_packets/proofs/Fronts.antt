-- Parts of packets as the code takes them.
use Rattle.std.proofs.Common.{◌≡◌, ℕ, ◌+◌, ◌-◌, ◌≤◌, ◌%◌, true, List, length, take, drop, sym, ap, ◌∙◌}
use Rattle.std.specs.Prelude.{◌==◌, ◌||◌, not}
use Rattle.std.proofs.lemmas.Bool.{cond-false, le-ltb}
use Rattle.lsa_codec.specs.Fields.{number_at}
use Rattle.ospf_packets.specs.declared.update.Flooded.{Flooded}
use Rattle.ospf_packets.specs.Checksums.{sum_of_words, has_checksum, is_checksum_good}
use Rattle.ospf_packets.specs.Packets.{lack}
use Rattle.ospf_packets.specs.ParsedFrames.{is_warning, parsed_update}
use Rattle.ospf_packets.specs.Updates.{parsed_lsas}
use Rattle.ospf_packets.proofs.Slices.{rest_at}

pub summed_up : (packet : List ℕ) (a b : ℕ) → has_checksum packet ≡ true → a ≡ sum_of_words (take 16 packet)
    → b ≡ sum_of_words (take (length packet - 24) (drop 24 packet)) → ((a + b) % 65535 == 0) ≡ is_checksum_good packet
summed_up packet a b has first second =
    ap (λ n. (n + b) % 65535 == 0) first
    ∙ ap (λ n. (sum_of_words (take 16 packet) + n) % 65535 == 0) (second ∙ ap sum_of_words (rest_at packet 24))
    ∙ ap (λ h. not h || ((sum_of_words (take 16 packet) + sum_of_words (drop 24 packet)) % 65535 == 0)) (sym has)

pub updated : {A : Type 0} (by : Flooded) (packet : List ℕ) (count : ℕ) → 28 ≤ length packet → count ≡ number_at 4 24 packet
    → parsed_lsas {A = A} by count (take (length packet - 28) (drop 28 packet)) ≡ parsed_update by packet
updated {A} by packet count long is =
    ap (λ n. parsed_lsas {A = A} by n (take (length packet - 28) (drop 28 packet))) is
    ∙ ap (parsed_lsas {A = A} by (number_at 4 24 packet)) (rest_at packet 28)
    ∙ sym (cond-false _ (is_warning (lack by.whole)) (parsed_lsas {A = A} by (number_at 4 24 packet) (drop 28 packet)) (le-ltb (length packet) 28 long))
