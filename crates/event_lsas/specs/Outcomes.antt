-- What an event makes of each LSA of a database, and the database after it.
use Rattle.std.specs.Prelude.{ℕ, ◌==◌, ◌&&◌, Bool, false, nat_le, List, [], ◌∷◌, length, map, Option, Some, None, Result, Ok, Err, if◌then◌else◌}
use Rattle.std.specs.List.{filter_map}
use Rattle.lsa_codec.specs.declared.address.AreaId.{AreaId}
use Rattle.lsa_codec.specs.declared.link.Link.{Link}
use Rattle.lsa_codec.specs.declared.fault.LsaFault.{LsaFault}
use Rattle.lsa_codec.specs.Decoding.{decoded}
use Rattle.lsa_codec.specs.Fields.{length_of}
use Rattle.lsa_codec.specs.Key.{key_of}
use Rattle.lsdb.specs.declared.section.Section.{Section}
use Rattle.lsdb.specs.declared.section.Section.TheVariants.{Area, AsWide}
use Rattle.lsdb.specs.declared.slot.SlotId.{SlotId}
use Rattle.lsdb.specs.Lists.{AreaHead, SectionLsas, Lists, same_key}
use Rattle.lsdb.specs.Slots.{Slot, Slots, put}
use Rattle.lsa_remaking.specs.declared.link_change.LinkChange.{LinkChange}
use Rattle.lsa_remaking.specs.declared.link_change.LinkChange.TheVariants.{Stays}
use Rattle.lsa_remaking.specs.declared.link_change.ChangedLink.{ChangedLink}
use Rattle.lsa_remaking.specs.Relinking.{count_left, changed_links, relinked}
use Rattle.event_links.specs.Interfaces.{is_among}
use Rattle.event_links.specs.Selections.{ChosenData, chosen_of, id_of}

-- an LSA is kept as it is, or another one takes its place: none where it is withdrawn
pub data LsaChange : Type 0 where
  kept : LsaChange
  becomes : Slot → LsaChange

-- what becomes of each LSA, by its area, or none for those of AS scope
abbrev pub Outcome : Type 0
Outcome = Option AreaHead → List ℕ → LsaChange

abbrev pub lsa_after : LsaChange → List ℕ → Option (List ℕ)
lsa_after kept lsa = Some lsa
lsa_after (becomes new) lsa = new

-- the database after an event: each LSA gives way to its outcome, in its place
abbrev pub section_after : Outcome → SectionLsas → SectionLsas
section_after outcome s = record { area = s.area; lsas = filter_map (λ lsa. lsa_after (outcome s.area lsa) lsa) s.lsas }

abbrev pub after : Outcome → Lists → Lists
after outcome db = map (section_after outcome) db

-- what becomes of the LSAs of each area; those of AS scope are kept
abbrev pub in_areas : (AreaId → List ℕ → LsaChange) → Outcome
in_areas outcome None lsa = kept
in_areas outcome (Some head) lsa = outcome (id_of head) lsa

-- ---- LSAs in place of others

-- all of the bytes are what was decoded
abbrev pub is_all_of : List ℕ → Result (List ℕ) LsaFault → Bool
is_all_of bytes (Ok lsa) = length lsa == length bytes
is_all_of bytes (Err fault) = false

-- the bytes are one accepted LSA: their length field is their length, and they are decoded
abbrev pub is_accepted : List ℕ → Bool
is_accepted bytes = (length_of bytes == length bytes) && is_all_of bytes (decoded bytes)

-- an LSA can take the place of another: it is accepted, has its key, and is no longer
abbrev pub can_replace : List ℕ → List ℕ → Bool
can_replace old new = is_accepted new && (same_key (key_of new) (key_of old) && nat_le (length new) (length old))

-- another LSA takes the place of one where it can, or none does
abbrev pub replaced : List ℕ → Slot → LsaChange
replaced old None = becomes None
replaced old (Some new) = if can_replace old new then becomes (Some new) else kept

-- ---- router-LSAs

-- a router-LSA with these links, each as it is changed. Without links it is withdrawn: the router is not attached to the area
-- any more (RFC 2328, 12.4.1, 16.2).
abbrev pub unless_empty : List ChangedLink → List ℕ → Slot
unless_empty links lsa = if count_left links == 0 then None else Some (relinked links lsa)

-- chosen links are changed, all others stay
abbrev pub change_of_chosen : LinkChange → List Link → Link → LinkChange
change_of_chosen change chosen link = if is_among chosen link then change else Stays

-- each link of a router-LSA, where the chosen ones are changed
abbrev pub with_chosen : LinkChange → List Link → List ℕ → List ChangedLink
with_chosen change chosen lsa = changed_links (change_of_chosen change chosen) lsa

-- a router-LSA whose chosen links are changed, where the new one can take its place; one without chosen links is kept as it is
abbrev pub relinked_where : LinkChange → List Link → List ℕ → LsaChange
relinked_where change chosen lsa = if length chosen == 0 then kept else replaced lsa (unless_empty (with_chosen change chosen lsa) lsa)

-- the chosen links of an area are changed; all LSAs without chosen links are kept
abbrev pub where_chosen : LinkChange → ChosenData → List ℕ → LsaChange
where_chosen change chosen lsa = relinked_where change (chosen_of chosen lsa) lsa

-- ---- the slots that change

-- the section of an area, or the one of AS scope
abbrev pub section_name : Option AreaHead → Section
section_name None = AsWide
section_name (Some head) = Area (id_of head)

-- a slot, its section, the LS type of the LSA there, and the LSA that it gets: none where the LSA there is withdrawn
pub record SlotChangeData : Type 0 where
  pub slot : SlotId
  pub section : Section
  pub kind : ℕ
  pub new : Slot

-- the slots once they have changed, from the first to the last
abbrev pub changed_slots : Slots → List SlotChangeData → Slots
changed_slots d [] = d
changed_slots d (c ∷ cs) = changed_slots (put d c.slot c.new) cs
