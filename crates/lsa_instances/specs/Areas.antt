-- Kinds of areas (RFC 2328, 3.6; RFC 3101).
use Rattle.std.specs.Prelude.{Bool, true, false}
use Rattle.lsa_instances.specs.declared.area.AreaKind.{AreaKind}
use Rattle.lsa_instances.specs.declared.area.AreaKind.TheVariants.{Ordinary, Stub, Nssa}

-- whether AS-external-LSAs stay outside of the area: so they do of a stub area, and of a not-so-stubby one (RFC 3101, 2.1)
abbrev pub is_stub_kind : AreaKind → Bool
is_stub_kind Ordinary = false
is_stub_kind Stub = true
is_stub_kind Nssa = true
