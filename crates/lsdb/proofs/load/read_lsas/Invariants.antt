use Rattle.std.proofs.Common.{◌≡◌, ◌<◌, ◌≤◌, ◌-◌, [], length, IsOk, option_map}
use Rattle.std.specs.Prelude.{All}
use Rattle.lsdb.specs.KeyRanges.{HaveWidths}
use Rattle.lsdb.specs.Slots.{full}
use Rattle.lsdb.specs.steps.OneSection.{AreApart}
use Rattle.lsdb.specs.steps.View.{head_of}
use Rattle.lsdb.specs.steps.Reading.{at_of}
use Rattle.lsdb.specs.Loading.{lsas_from, first_lsa_at}
use Rattle.lsdb.proofs.Keys.{HasKeys}
use Rattle.lsdb.proofs.load.read_lsas.Given as goal

abbrev pub invariant-loop : goal.invariant-loop
invariant-loop g l = record {
  reading : lsas_from (option_map head_of l.area) (l.count - l.counter) (full l.slots.items)
      (at_of l.at) ≡ lsas_from (option_map head_of l.area) l.count [] (at_of l.start);
  keys : HasKeys l.keys (full l.slots.items);
  apart : AreApart l.slots.items;
  widths : All HaveWidths (full l.slots.items);
  few : length l.slots.items ≤ l.counter;
  same : l.counter ≡ 0 → at_of l.at ≡ at_of l.start;
  first : 0 < l.counter → IsOk (first_lsa_at 1 (at_of l.start));
}
