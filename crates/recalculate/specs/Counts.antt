-- What a session counts: areas, LSAs and what virtual links leave in them (RFC 2328, 12.2 and A.4.2), and edits.
use Rattle.std.specs.Prelude.{length}
use Rattle.std.specs.List.{count_by, sum_by}
use Rattle.lsdb.specs.declared.section.Section.TheVariants.{AsWide}
use Rattle.lsdb.specs.Counts.{has_bit_v, virtual_link_count}
use Rattle.lsdb.specs.Lists.{areas_of, lsas_of}
use Rattle.edit_history.specs.Session.{Session, state}
use Rattle.routing_table.specs.AreaLsas.{area_lsas}
use Rattle.recalculate.specs.declared.counts.Info.{Info}

-- the counts of a session; an LSA counts at any age
abbrev pub info_of : Session → Info
info_of s = record {
  areas = length (areas_of (state s));
  lsas = length (area_lsas (state s));
  as_lsas = length (lsas_of AsWide (state s));
  vbits = count_by has_bit_v (area_lsas (state s));
  vlinks = sum_by virtual_link_count (area_lsas (state s));
  done = length s.done;
  undone = length s.undone;
}
