use Rattle.std.proofs.Common.{sym, Some}
use Rattle.std.proofs.lemmas.Iterator.Consumers.{nth_from_yields_List, YieldsList-from_first}
use Rattle.lsdb.proofs.database.Database.lsa.Goals as goal

pub returns : goal.returns
returns g c =
    sym (nth_from_yields_List (Some c.in-Some.lsa) _ c.args.i c.in-Some.ensures.ran (YieldsList-from_first (λ x. x.now) (λ s. s) _ c.lsas.ensures.lsas))
