-- Tests that decide whether kinds are the same.
use Rattle.std.proofs.Common.{◌≡◌, refl, Decides}
use Rattle.study_words.specs.declared.route_kind.RouteKind.{RouteKind}
use Rattle.study_words.specs.declared.route_kind.RouteKind.TheVariants.{Intra, Inter, External1, External2, Own}
use Rattle.table_changes.specs.Changes.{same_kind}

pub same_kind_decides : (a b : RouteKind) → Decides (same_kind a b) (a ≡ b)
same_kind_decides Intra Intra = (λ _. refl, λ _. refl)
same_kind_decides Inter Inter = (λ _. refl, λ _. refl)
same_kind_decides External1 External1 = (λ _. refl, λ _. refl)
same_kind_decides External2 External2 = (λ _. refl, λ _. refl)
same_kind_decides Own Own = (λ _. refl, λ _. refl)
same_kind_decides a b = (λ h. cc, λ e. cc)
