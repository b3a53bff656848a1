use Rattle.std.proofs.Common.{◌≡◌, ◌<◌, ◌-◌, [], None, IsOk, option_map}
use Rattle.lsdb.specs.Slots.{lists_of}
use Rattle.lsdb.specs.steps.View.{head_of, slots_of}
use Rattle.lsdb.specs.steps.Reading.{at_of}
use Rattle.lsdb.specs.Loading.{areas_from, area_front_at}
use Rattle.lsdb.proofs.load.read_areas.Given as goal

abbrev pub invariant-loop : goal.invariant-loop
invariant-loop g l = record {
  reading : areas_from (l.count - l.counter) (option_map head_of l.before) (lists_of (slots_of l.areas.items))
      (at_of l.at) ≡ areas_from l.count None [] (at_of l.start);
  same : l.counter ≡ 0 → at_of l.at ≡ at_of l.start;
  first : 0 < l.counter → IsOk (area_front_at (at_of l.start));
}
