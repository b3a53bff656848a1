-- What the planner leaves out, where LSAs show it: not-so-stubby areas, opaque LSAs and virtual links.
use Rattle.std.specs.Prelude.{ℕ, ◌==◌, ◌&&◌, Bool, nat_le, if◌then◌else◌, List, [], ◌∷◌, ◌++◌, length}
use Rattle.std.specs.List.{count_by, filter, flat_map}
use Rattle.findings.specs.declared.feature.Feature.{Feature}
use Rattle.findings.specs.declared.feature.Feature.TheVariants.{Nssa, Opaque, VirtualEnd, VirtualLink}
use Rattle.findings.specs.declared.finding.Finding.{Finding}
use Rattle.findings.specs.declared.finding.Finding.TheVariants.{LeftOut}
use Rattle.lsa_codec.specs.declared.link.Link.{Link}
use Rattle.lsa_codec.specs.Fields.{kind_of}
use Rattle.lsa_codec.specs.Links.{links_of}
use Rattle.lsa_codec.specs.LsTypes.{router_lsa, as_opaque_lsa}
use Rattle.lsa_instances.specs.declared.place.Scope.{Scope}
use Rattle.lsa_instances.specs.LsTypes.{nssa_lsa, link_opaque_lsa}
use Rattle.lsdb.specs.Counts.{has_bit_v, is_virtual}

-- an LSA of type 7 (RFC 3101, 2.4)
abbrev pub is_nssa : List ℕ → Bool
is_nssa lsa = kind_of lsa == nssa_lsa

-- an opaque LSA, of the types 9 to 11 (RFC 5250, 3)
abbrev pub is_opaque : List ℕ → Bool
is_opaque lsa = nat_le link_opaque_lsa (kind_of lsa) && nat_le (kind_of lsa) as_opaque_lsa

abbrev pub virtual_links : List ℕ → List Link
virtual_links lsa = if kind_of lsa == router_lsa then filter (λ link. is_virtual link.kind) (links_of lsa) else []

-- the number of one kind, unless it is 0
abbrev pub left_out : Scope → Feature → ℕ → List Finding
left_out scope feature count = if count == 0 then [] else LeftOut scope feature count ∷ []

-- all that the LSAs of a scope show, in this order, whatever their age
abbrev pub all_left_out : Scope → List (List ℕ) → List Finding
all_left_out scope lsas =
    left_out scope Nssa (count_by is_nssa lsas)
    ++ left_out scope Opaque (count_by is_opaque lsas)
    ++ left_out scope VirtualEnd (count_by has_bit_v lsas)
    ++ left_out scope VirtualLink (length (flat_map virtual_links lsas))
