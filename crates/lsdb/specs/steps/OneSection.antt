-- The slots of one section: what stands at them.
use Rattle.std.specs.Prelude.{◌≤◌, List, length, map, All}
use Rattle.lsa_codec.specs.Key.{key_of}
use Rattle.lsa_codec.specs.Accepted.{IsAccepted}
use Rattle.lsdb.specs.Limits.{most_lsas_of_as}
use Rattle.lsdb.specs.Lists.{AreDistinct}
use Rattle.lsdb.specs.Slots.{Slot, full}

-- no two of the LSAs have one key
abbrev pub AreApart : List Slot → Type 0
AreApart slots = AreDistinct (map key_of (full slots))

-- LSAs that are accepted, no more of them than a section may have, and no two with one key
pub record FitSection (slots : List Slot) : Type 0 where
  pub accepted : All IsAccepted (full slots)
  pub few : length (full slots) ≤ most_lsas_of_as
  pub apart : AreApart slots
