use Rattle.std.proofs.Common.{sym, ◌+◌, arith}
use Rattle.edit_history.proofs.Searches.{exists_in_lists, router_here, router_not_here, router_nowhere}
use Rattle.edit_history.proofs.lookup.has_router.Goals as goal

pub is_in_section-requires : goal.is_in_section-requires
is_in_section-requires g c = exists_in_lists c.args.database.now c.loop-section.section (omega arith)

pub returns-then-is_in_section : goal.returns-then-is_in_section
returns-then-is_in_section g c =
    sym (router_here c.args.router c.args.database.now c.loop-section.section c.is_in_section.result
    (omega arith) c.is_in_section.ensures c.if-is_in_section.true c.loop-section.invariant)

pub loop-section-preserved : goal.loop-section-preserved
loop-section-preserved g c =
    router_not_here c.args.router c.args.database.now c.loop-section.section (c.loop-section.section + 1) c.is_in_section.result (omega arith)
    (omega arith) c.is_in_section.ensures c.if-is_in_section.false c.loop-section.invariant

pub returns : goal.returns
returns g c = sym (router_nowhere c.args.router c.args.database.now c.loop-section.section (omega arith) c.loop-section.invariant)
