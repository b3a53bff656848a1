use Rattle.std.proofs.Common.{◌≡◌, ◌*◌, take}
use Rattle.lsdb.specs.Counts.{AreFew, counts_of}
use Rattle.lsdb.specs.Lists.{areas_of}
use Rattle.lsdb.specs.Slots.{lists_of}
use Rattle.routing_table.proofs.AreaLsaLemmas.{lsas_among}
use Rattle.recalculate.proofs.counts.area_counts.Given as goal

-- the counts of the areas so far
abbrev pub invariant-loop-section : goal.invariant-loop-section
invariant-loop-section g l = record {
  counts : record { lsas = l.lsas; virtual_ends = l.virtual_ends; virtual_links = l.virtual_links }
      ≡ counts_of (lsas_among (lists_of l.database) (take l.section (areas_of (lists_of l.database))));
  few : AreFew (65535 * l.section) (record { lsas = l.lsas; virtual_ends = l.virtual_ends; virtual_links = l.virtual_links });
}
