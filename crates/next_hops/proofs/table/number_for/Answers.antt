use Rattle.std.proofs.Common.{◌<◌, [], length, sym, subst}
use Rattle.std.proofs.lemmas.List.Elements.{All-head}
use Rattle.std.proofs.lemmas.Result.{on_ok_weaker}
use Rattle.next_hops.specs.steps.Handed.{numbers_in}
use Rattle.next_hops.specs.steps.Shared.{AreWithin, IsJoin}
use Rattle.next_hops.proofs.Keeping.{AreJoins-kept, IsJoin-one}
use Rattle.next_hops.proofs.table.number_for.Goals as goal

pub returns-in-Nothing-clause-joined : goal.returns-in-Nothing-clause-joined
returns-in-Nothing-clause-joined g c =
    on_ok_weaker c.number_of.result
    (λ keeps. AreJoins-kept c.args.lists.now.keys c.number_of.new.lists.keys keeps c.args.joins.now.entries c.requires.joined)
    c.number_of.ensures.keeps

pub returns-in-One-clause-join : goal.returns-in-One-clause-join
returns-in-One-clause-join g c =
    let lists = c.args.lists.now.keys in
    let n = c.in-One.number in
    let within = All-head (λ m. m < length lists) n [] (subst (λ handed. AreWithin lists (numbers_in handed)) c.in-One.is c.requires.within) in
    subst (λ handed. IsJoin lists (numbers_in handed) n) (sym c.in-One.is) (IsJoin-one lists c.requires.sorted n within)
