-- What frames contain, one after another.
use Rattle.std.proofs.Common.{◌≡◌, ℕ, ◌+◌, ◌-◌, ◌<◌, ◌≤◌, List, ◌∷◌, ◌++◌, length, map, get_or, take, drop}
use Rattle.std.proofs.Common.{refl, sym, ap, ◌∙◌, add-one, append_assoc}
use Rattle.std.proofs.Math.Seq.{drop-cons}
use Rattle.std.proofs.lemmas.List.{drop_all, append-nil, map_more}
use Rattle.capture_files.specs.declared.frame.Frame.{Frame}
use Rattle.capture_files.specs.CaptureTexts.{packet_of}
use Rattle.findings.specs.declared.part.Part.{Part}
use Rattle.ospf_packets.specs.ParsedFrames.{parsed_frame, parsed_after}
use Rattle.ospf_packets.proofs.Slices.{rest_at}

pub parsed_next : {A : Type 0} (parsed : List (Part A)) (frames : List Frame) (i : ℕ) (d : Frame) (all : List (Part A)) → i < length frames
    → parsed ++ parsed_after (map packet_of (take i frames)) (map packet_of (drop i frames)) ≡ all
    → (parsed ++ parsed_frame (map packet_of (take i frames)) (packet_of (get_or frames i d))
    (map packet_of (take (length frames - (i + 1)) (drop (i + 1) frames))))
    ++ parsed_after (map packet_of (take (i + 1) frames)) (map packet_of (drop (i + 1) frames)) ≡ all
unfolding parsed_after
parsed_next {A} parsed frames i d all lt h =
    let cut : drop i frames ≡ get_or frames i d ∷ drop (i + 1) frames = rw (add-one, drop-cons frames i d) refl in
    let here = parsed_frame {A = A} (map packet_of (take i frames)) (packet_of (get_or frames i d)) (map packet_of (drop (i + 1) frames)) in
    ap (λ fs. (parsed ++ parsed_frame {A = A} (map packet_of (take i frames)) (packet_of (get_or frames i d)) (map packet_of fs))
    ++ parsed_after (map packet_of (take (i + 1) frames)) (map packet_of (drop (i + 1) frames))) (rest_at frames (i + 1))
    ∙ append_assoc parsed here (parsed_after (map packet_of (take (i + 1) frames)) (map packet_of (drop (i + 1) frames)))
    ∙ ap (λ before. parsed ++ (here ++ parsed_after {A = A} before (map packet_of (drop (i + 1) frames)))) (map_more packet_of frames i d lt)
    ∙ ap (λ fs. parsed ++ parsed_after {A = A} (map packet_of (take i frames)) (map packet_of fs)) (sym cut) ∙ h

pub parsed_all : {A : Type 0} (parsed : List (Part A)) (frames : List Frame) (i : ℕ) (all : List (Part A)) → length frames ≤ i
    → parsed ++ parsed_after (map packet_of (take i frames)) (map packet_of (drop i frames)) ≡ all → parsed ≡ all
unfolding parsed_after
parsed_all {A} parsed frames i all le h =
    sym (append-nil parsed)
    ∙ ap (λ fs. parsed ++ parsed_after {A = A} (map packet_of (take i frames)) (map packet_of fs)) (sym (drop_all i frames le)) ∙ h
