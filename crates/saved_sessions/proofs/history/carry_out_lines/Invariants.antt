use Rattle.std.proofs.Common.{◌≡◌, ◌-◌, ◌+◌, ◌≤◌, [], length}
use Rattle.saved_sessions.specs.Opening.{position_after, lines_from}
use Rattle.saved_sessions.proofs.history.carry_out_lines.Given as goal

abbrev pub invariant-loop-line : goal.invariant-loop-line
invariant-loop-line g l = record {
  reading : lines_from (l.count - l.line) l.line l.planner.session (position_after l.end l.bytes)
      ≡ lines_from l.count 0 l.initial.planner.session (position_after l.offset l.bytes);
  within : l.end ≤ length l.bytes;
  done : length l.planner.session.done ≡ length l.initial.planner.session.done + l.line;
  runs : l.planner.runs ≡ l.initial.planner.runs;
  kept : l.initial.planner.kept ≡ [] → l.planner.kept ≡ [];
}
