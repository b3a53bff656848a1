-- EtherTypes, tag by tag.
use Rattle.std.proofs.Common.{◌≡◌, ℕ, ◌<◌, ◌≤◌, true, false, List, [], ◌∷◌, length, drop, Err, refl, arith}
use Rattle.lsa_codec.specs.Fields.{number_at}
use Rattle.findings.specs.declared.frame_warning.FrameWarning.TheVariants.{Truncated}
use Rattle.ospf_packets.specs.Links.{is_tag, untagged, after_type}

pub tagged : (kind : ℕ) (bytes : List ℕ) → is_tag kind ≡ true → 4 ≤ length bytes
    → after_type kind bytes ≡ after_type (number_at 2 2 bytes) (drop 4 bytes)
unfolding after_type
tagged kind [] h long = absurd (omega arith)
tagged kind (a ∷ []) h long = absurd (omega arith)
tagged kind (a ∷ b ∷ []) h long = absurd (omega arith)
tagged kind (a ∷ b ∷ c ∷ []) h long = absurd (omega arith)
tagged kind (a ∷ b ∷ c ∷ d ∷ bytes) h long = rw h refl

pub cut_tag : (kind : ℕ) (bytes : List ℕ) → is_tag kind ≡ true → length bytes < 4 → after_type kind bytes ≡ Err Truncated
unfolding after_type
cut_tag kind [] h short = rw h refl
cut_tag kind (a ∷ []) h short = rw h refl
cut_tag kind (a ∷ b ∷ []) h short = rw h refl
cut_tag kind (a ∷ b ∷ c ∷ []) h short = rw h refl
cut_tag kind (a ∷ b ∷ c ∷ d ∷ bytes) h short = absurd (omega arith)

pub no_tag : (kind : ℕ) (bytes : List ℕ) → is_tag kind ≡ false → after_type kind bytes ≡ untagged kind bytes
unfolding after_type
no_tag kind [] h = rw h refl
no_tag kind (a ∷ []) h = rw h refl
no_tag kind (a ∷ b ∷ []) h = rw h refl
no_tag kind (a ∷ b ∷ c ∷ []) h = rw h refl
no_tag kind (a ∷ b ∷ c ∷ d ∷ bytes) h = rw h refl
