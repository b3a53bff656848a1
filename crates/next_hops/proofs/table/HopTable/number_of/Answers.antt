use Rattle.std.proofs.lemmas.Result.{on_ok_weaker}
use Rattle.next_hops.proofs.Keeping.{AreWhole-kept, hops-kept}
use Rattle.next_hops.proofs.table.HopTable.number_of.Goals as goal

pub returns-clause-stays : goal.returns-clause-stays
returns-clause-stays g c =
    let table = c.args.self.now in
    on_ok_weaker c.number_of.result
    (λ keeps. record {
      hops = hops-kept table.lists.keys c.number_of.new.lists.keys keeps table.vertices.items c.requires.whole.within;
      keeps = keeps;
      whole = AreWhole-kept table.lists.keys c.number_of.new.lists.keys keeps table.joins.entries table.vertices.items c.requires.whole;
    })
    c.number_of.ensures.keeps
