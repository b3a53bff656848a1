use Rattle.std.proofs.Common.{sym, ◌∙◌}
use Rattle.std.proofs.lemmas.Result.{on_ok_weaker}
use Rattle.snmp_walk.proofs.Counted.{no_more, one_more}
use Rattle.snmp_walk.proofs.count.put_row.Goals as goal

pub put_one-requires : goal.put_one-requires
put_one-requires g c = c.requires c.in-Some.counted

pub returns-in-Some : goal.returns-in-Some
returns-in-Some g c =
    on_ok_weaker c.put_one.result
    (λ put. one_more c.args.numbers.now c.put_one.new.numbers c.args.row c.in-Some.counted (sym c.counted_as.ensures ∙ c.in-Some.is) put)
    c.put_one.ensures

pub returns-in-None : goal.returns-in-None
returns-in-None g c = no_more c.args.numbers.now c.args.row (sym c.counted_as.ensures ∙ c.in-None.is)
