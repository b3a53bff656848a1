-- Slices as the code takes them.
use Rattle.std.proofs.Common.{◌≡◌, ℕ, ◌-◌, List, length, map, min, take, drop, sym, ap, ◌∙◌, arith}
use Rattle.std.proofs.lemmas.List.{take_all, length-drop, take_min, take-map, drop-map, length-map}
use Rattle.capture_files.specs.declared.frame.Frame.{Frame}
use Rattle.capture_files.specs.CaptureTexts.{packet_of}
use Rattle.ospf_packets.specs.Fragments.{last_few, first_few}

-- what stands from an index on, as the code takes it
pub rest_at : {X : Type 0} (xs : List X) (i : ℕ) → take (length xs - i) (drop i xs) ≡ drop i xs
rest_at xs i = take_all _ (drop i xs) (omega (arith, length-drop i xs))

pub few_first : (frames : List Frame) (n : ℕ) → n ≡ min 256 (length frames) → map packet_of (take n frames) ≡ first_few (map packet_of frames)
few_first frames n is =
    ap (λ k. map packet_of (take k frames)) is ∙ ap (map packet_of) (take_min 256 frames) ∙ sym (take-map packet_of 256 frames)

pub few_last : (frames : List Frame) (n : ℕ) → n ≡ length frames - 256
    → map packet_of (take (length frames - n) (drop n frames)) ≡ last_few (map packet_of frames)
few_last frames n is =
    ap (map packet_of) (rest_at frames n)
    ∙ ap (λ k. map packet_of (drop k frames)) is
    ∙ sym (drop-map packet_of (length frames - 256) frames)
    ∙ ap (λ k. drop (k - 256) (map packet_of frames)) (sym (length-map frames packet_of))
