use Rattle.next_hops.specs.steps.Table.{IsWhole, hops_so_far}
use Rattle.next_hops.proofs.Handing.{HandedOn}
use Rattle.next_hops.proofs.hops.pass_all.Given as goal

abbrev pub invariant-loop-from : goal.invariant-loop-from
invariant-loop-from g l = record {
  handed : HandedOn l.graph l.tree l.from-index (hops_so_far l.table);
  whole : IsWhole l.table;
}
