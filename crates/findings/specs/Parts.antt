-- Parts of what a file contains.
use Rattle.std.specs.Prelude.{None}
use Rattle.findings.specs.declared.finding.Finding.TheVariants.{Unused}
use Rattle.findings.specs.declared.part.Part.{Part}
use Rattle.findings.specs.declared.part.Part.TheVariants.{Finding}
use Rattle.findings.specs.declared.unused_reason.UnusedReason.{UnusedReason}
use Rattle.lsa_codec.specs.declared.key.Key.{Key}

-- the LSA with this key, in no area that is known, is not used for this reason
abbrev pub unused : {A : Type 0} → Key → UnusedReason → Part A
unused key reason = Finding (Unused (record { area = None; key = key }) reason)
