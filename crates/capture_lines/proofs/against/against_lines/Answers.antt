use Rattle.std.proofs.Common.{rules, subst}
use Rattle.std.specs.String.{string_bytes}
use Rattle.capture_lines.specs.Reports.{HaveListTexts}
use Rattle.capture_lines.proofs.Pairs.{list_more, next_pair, no_pair}
use Rattle.capture_lines.proofs.against.against_lines.Goals as goal
use Rattle.lsdb.specs.Slots.{lists_of}

pub loop-name-preserved : goal.loop-name-preserved
loop-name-preserved g c =
    list_more (lists_of c.args.database.now) _ _ _ _ _ _ _
    (next_pair c.args.names.now c.args.lists.now c.loop-name.yielded c.into_iter-name-iterator.result c.loop-name.name-iterator c.next.new.self
    c.next.result (search rules) (search rules) c.loop-name.yielded_by c.next.ensures.steps c.in-Some.name c.in-Some.list c.in-Some.is)
    c.loop-name.invariant c.in_ok-found.ensures (search rules)

pub returns : goal.returns
returns g c =
    subst (λ given. HaveListTexts (lists_of c.args.database.now) given (string_bytes c.loop-name.lines))
    (no_pair c.args.names.now c.args.lists.now c.loop-name.yielded c.into_iter-name-iterator.result c.loop-name.name-iterator c.next.new.self
    c.next.result (search rules) (search rules) c.loop-name.yielded_by c.next.ensures.steps c.in-None.is)
    c.loop-name.invariant
