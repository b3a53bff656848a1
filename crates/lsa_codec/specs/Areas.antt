-- Area IDs (RFC 2328, C.2).
use Rattle.std.specs.Prelude.{Bool, ◌==◌}
use Rattle.lsa_codec.specs.declared.address.AreaId.{AreaId}

-- the backbone: area 0.0.0.0 (3.1)
abbrev pub is_backbone : AreaId → Bool
is_backbone area = area.0 == 0
