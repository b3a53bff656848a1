-- Findings that do not matter to the planner.
use Rattle.std.specs.Prelude.{ℕ, Bool, true, false, ◌&&◌, nat_le, if◌then◌else◌, Option, Some, None}
use Rattle.findings.specs.declared.feature.Feature.{Feature}
use Rattle.findings.specs.declared.feature.Feature.TheVariants.{Nssa, Opaque, VirtualEnd, VirtualLink}
use Rattle.findings.specs.declared.finding.Finding.{Finding}
use Rattle.findings.specs.declared.finding.Finding.TheVariants as findings
use Rattle.lsa_codec.specs.LsTypes.{as_opaque_lsa}
use Rattle.lsa_instances.specs.LsTypes.{link_opaque_lsa}

-- the types 9 to 11 (RFC 5250, 3)
abbrev pub is_opaque_type : ℕ → Bool
is_opaque_type kind = nat_le link_opaque_lsa kind && nat_le kind as_opaque_lsa

-- opaque LSAs give no routes; areas that are not-so-stubby and virtual links do
abbrev pub is_left_out : Feature → Bool
is_left_out Nssa = false
is_left_out Opaque = true
is_left_out VirtualEnd = false
is_left_out VirtualLink = false

-- a notice: it is about nothing but opaque LSAs, so that the tables are the same
unfoldable pub is_notice : Finding → Bool
is_notice (findings.Unused one reason) = is_opaque_type one.key.kind
is_notice (findings.Unseen place) = is_opaque_type place.key.kind
is_notice (findings.Newer place) = is_opaque_type place.key.kind
is_notice (findings.NotRead feature count) = is_left_out feature
is_notice (findings.LeftOut scope feature count) = is_left_out feature
is_notice _ = false

-- the finding, where it is a notice, or where it is none
abbrev pub chosen : Bool → Finding → Option Finding
chosen true finding = if is_notice finding then Some finding else None
chosen false finding = if is_notice finding then None else Some finding
