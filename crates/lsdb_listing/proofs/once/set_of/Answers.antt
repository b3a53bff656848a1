use Rattle.std.proofs.Common.{rules}
use Rattle.std.specs.BTreeSet.{IsFromIterResult}
use Rattle.std.proofs.lemmas.Iterator.Adapters.{fact_from_collect, YieldsList-from_vec}
use Rattle.std.proofs.lemmas.Result.{IfOk-weaker}
use Rattle.lsdb_listing.specs.contracts.difference.DifferenceOrd.TheImpl as derived
use Rattle.lsdb_listing.proofs.Singles.{once_from_set}
use Rattle.lsdb_listing.proofs.once.set_of.Goals as goal

pub returns : goal.returns
returns g c =
    IfOk-weaker c.collect.result _ _ (λ set h. once_from_set c.args.found.items set h)
    (fact_from_collect (IsFromIterResult derived.cmp-value.it) c.collect.result c.collect.ensures.ran
    (YieldsList-from_vec c.args.found.items c.into_iter.ensures.rest (search rules)))
