use Rattle.std.proofs.Common.{◌+◌, ◌++◌, ap, ◌∙◌, drop, arith}
use Rattle.snmp_walk.specs.steps.ParsedLines.{parsed_after}
use Rattle.snmp_walk.proofs.Values.{rest_at}
use Rattle.snmp_walk.proofs.ParsedObjects.{parsed_later, parsed_next}
use Rattle.snmp_walk.proofs.parsed_object.parse_all.Goals as goal

pub loop-index-preserved : goal.loop-index-preserved
loop-index-preserved g c =
    let text = c.args.text.now in
    let i = c.loop-index.index in
    let before = c.loop-index.parsed.items in
    ap (λ t. t ++ parsed_later (drop (i + 1) text)) (c.in_ok-parse_line_after.ensures ∙ ap (λ t. before ++ parsed_after t) (rest_at text i))
    ∙ parsed_next before text text i (omega arith) c.loop-index.invariant
