use Rattle.std.proofs.Common.{arith}
use Rattle.area_graph.proofs.EachOnce.{rise_more, rising_whole}
use Rattle.area_graph.proofs.rows.is_rising.Goals as goal

pub loop-index-init : goal.loop-index-init
loop-index-init c = (omega arith, λ k j lt below. absurd (omega (arith, lt, below)))

pub loop-index-preserved : goal.loop-index-preserved
loop-index-preserved c = (
  omega arith,
  rise_more c.args.row.now c.loop-index.index c.loop-index.invariant.0 c.loop-index.invariant.1 (omega arith),
)

pub returns : goal.returns
returns c = λ yes. rising_whole c.args.row.now c.loop-index.index (omega arith) c.loop-index.invariant.1
