-- Joining datagrams, frame by frame.
use Rattle.std.proofs.Common.{◌≡◌, ℕ, ◌+◌, ◌<◌, ◌≤◌, Bool, true, false, List, ◌∷◌, length, map, get_or}
use Rattle.std.proofs.Common.{drop}
use Rattle.std.proofs.Common.{Option, Some, None, refl, sym, ap, ◌∙◌, add-one}
use Rattle.std.proofs.Math.Seq.{drop-cons}
use Rattle.std.proofs.lemmas.List.{drop_all}
use Rattle.capture_files.specs.declared.frame.Frame.{Frame}
use Rattle.capture_files.specs.CaptureTexts.{packet_of}
use Rattle.std.specs.Prelude.{◌||◌}
use Rattle.ospf_packets.specs.Datagrams.{DatagramText}
use Rattle.ospf_packets.specs.Fragments.{datagram_of, with_fragment, or_onward, joined, leads_to, has_front}

opened : (first : DatagramText) (payload : List ℕ) (frames : List Frame) (i : ℕ) (d : Frame) → i < length frames
    → joined first payload (map packet_of (drop i frames))
    ≡ or_onward (λ longer. joined first longer (map packet_of (drop (i + 1) frames)))
    (with_fragment first payload (datagram_of (packet_of (get_or frames i d))))
unfolding joined
opened first payload frames i d lt =
    let cut : drop i frames ≡ get_or frames i d ∷ drop (i + 1) frames = rw (add-one, drop-cons frames i d) refl in
    ap (λ fs. joined first payload (map packet_of fs)) cut

pub ended : (first : DatagramText) (payload longer : List ℕ) (frames : List Frame) (i : ℕ) (d : Frame) (total : Option (List ℕ)) (is_end : Bool)
    → i < length frames → is_end ≡ true → (longer, is_end) ≡ with_fragment first payload (datagram_of (packet_of (get_or frames i d)))
    → joined first payload (map packet_of (drop i frames)) ≡ total → Some longer ≡ total
ended first payload longer frames i d total is_end lt end is h =
    ap (λ b. or_onward (λ longer. joined first longer (map packet_of (drop (i + 1) frames))) (longer, b)) (sym end)
    ∙ ap (or_onward (λ longer. joined first longer (map packet_of (drop (i + 1) frames)))) is ∙ sym (opened first payload frames i d lt) ∙ h

pub onward : (first : DatagramText) (payload longer : List ℕ) (frames : List Frame) (i : ℕ) (d : Frame) (total : Option (List ℕ)) → i < length frames
    → (longer, false) ≡ with_fragment first payload (datagram_of (packet_of (get_or frames i d)))
    → joined first payload (map packet_of (drop i frames)) ≡ total → joined first longer (map packet_of (drop (i + 1) frames)) ≡ total
onward first payload longer frames i d total lt is h =
    ap (or_onward (λ longer. joined first longer (map packet_of (drop (i + 1) frames)))) is ∙ sym (opened first payload frames i d lt) ∙ h

pub unended : (first : DatagramText) (payload : List ℕ) (frames : List Frame) (i : ℕ) (total : Option (List ℕ)) → length frames ≤ i
    → joined first payload (map packet_of (drop i frames)) ≡ total → None ≡ total
unfolding joined
unended first payload frames i total le h =
    ap (λ fs. joined first payload (map packet_of fs)) (sym (drop_all i frames le)) ∙ h

-- ---- the fragment before

pub front_after : (fragment : DatagramText) (frames : List Frame) (i : ℕ) (d : Frame) → i < length frames
    → has_front fragment (map packet_of (drop i frames))
    ≡ (leads_to fragment (datagram_of (packet_of (get_or frames i d))) || has_front fragment (map packet_of (drop (i + 1) frames)))
front_after fragment frames i d lt =
    let cut : drop i frames ≡ get_or frames i d ∷ drop (i + 1) frames = rw (add-one, drop-cons frames i d) refl in
    ap (λ fs. has_front fragment (map packet_of fs)) cut

pub front_there : (fragment : DatagramText) (frames : List Frame) (i : ℕ) (d : Frame) (total : Bool) → i < length frames
    → leads_to fragment (datagram_of (packet_of (get_or frames i d))) ≡ true → has_front fragment (map packet_of (drop i frames)) ≡ total
    → true ≡ total
front_there fragment frames i d total lt here h =
    ap (λ b. b || has_front fragment (map packet_of (drop (i + 1) frames))) (sym here) ∙ sym (front_after fragment frames i d lt) ∙ h

pub front_onward : (fragment : DatagramText) (frames : List Frame) (i : ℕ) (d : Frame) (total : Bool) → i < length frames
    → leads_to fragment (datagram_of (packet_of (get_or frames i d))) ≡ false → has_front fragment (map packet_of (drop i frames)) ≡ total
    → has_front fragment (map packet_of (drop (i + 1) frames)) ≡ total
front_onward fragment frames i d total lt here h =
    ap (λ b. b || has_front fragment (map packet_of (drop (i + 1) frames))) (sym here) ∙ sym (front_after fragment frames i d lt) ∙ h

pub front_nowhere : (fragment : DatagramText) (frames : List Frame) (i : ℕ) (total : Bool) → length frames ≤ i
    → has_front fragment (map packet_of (drop i frames)) ≡ total → false ≡ total
front_nowhere fragment frames i total le h =
    ap (λ fs. has_front fragment (map packet_of fs)) (sym (drop_all i frames le)) ∙ h
