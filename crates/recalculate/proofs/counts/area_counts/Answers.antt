use Rattle.std.proofs.Common.{◌<◌, arith, length}
use Rattle.lsdb.specs.Lists.{areas_of}
use Rattle.lsdb.specs.Slots.{lists_of}
use Rattle.recalculate.proofs.Totals.{areas_few, counts_more, section_there}
use Rattle.recalculate.proofs.counts.area_counts.Goals as goal

pub counts_in-counts-requires : goal.counts_in-counts-requires
counts_in-counts-requires g c =
    section_there c.args.database.now c.loop-section.section c.assert_valid.ensures (omega (arith, c.area_count-section-end.ensures, c.loop-section-test.true))

pub overflow_add-lsas : goal.overflow_add-lsas
overflow_add-lsas g c =
    omega (
      arith,
      c.loop-section.invariant.few.lsas,
      c.counts_in-counts.ensures.few.lsas,
      areas_few (lists_of c.args.database.now) c.assert_valid.ensures,
      c.area_count-section-end.ensures,
      c.loop-section-test.true,
    )

pub overflow_add-virtual_ends : goal.overflow_add-virtual_ends
overflow_add-virtual_ends g c =
    omega (
      arith,
      c.loop-section.invariant.few.virtual_ends,
      c.counts_in-counts.ensures.few.virtual_ends,
      areas_few (lists_of c.args.database.now) c.assert_valid.ensures,
      c.area_count-section-end.ensures,
      c.loop-section-test.true,
    )

pub overflow_add-virtual_links : goal.overflow_add-virtual_links
overflow_add-virtual_links g c =
    omega (
      arith,
      c.loop-section.invariant.few.virtual_links,
      c.counts_in-counts.ensures.few.virtual_links,
      areas_few (lists_of c.args.database.now) c.assert_valid.ensures,
      c.area_count-section-end.ensures,
      c.loop-section-test.true,
    )

pub loop-section-preserved : goal.loop-section-preserved
loop-section-preserved g c =
    let lt : c.loop-section.section < length (areas_of (lists_of c.args.database.now)) =
    omega (arith, c.area_count-section-end.ensures, c.loop-section-test.true) in
    record {
      counts =
          counts_more c.args.database.now c.loop-section.section c.assert_valid.ensures lt c.loop-section.lsas c.loop-section.virtual_ends c.loop-section.virtual_links
          c.counts_in-counts.result c.loop-section.invariant.counts c.counts_in-counts.ensures.counts;
      few = record {
        lsas = omega (arith, c.loop-section.invariant.few.lsas, c.counts_in-counts.ensures.few.lsas);
        virtual_ends = omega (arith, c.loop-section.invariant.few.virtual_ends, c.counts_in-counts.ensures.few.virtual_ends);
        virtual_links = omega (arith, c.loop-section.invariant.few.virtual_links, c.counts_in-counts.ensures.few.virtual_links);
      };
    }
