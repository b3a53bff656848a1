-- Trees that were not calculated yet are of any database.
use Rattle.std.proofs.Common.{◌≡◌, [], None, subst, sym}
use Rattle.lsdb.specs.Lists.{Lists}
use Rattle.routing_table.specs.AreasTrees.{AreOfDatabase, KeptTreesValue}

pub no_trees : (db : Lists) (kept : KeptTreesValue) → kept ≡ record { areas = []; spare = None } → AreOfDatabase db kept
no_trees db kept is = subst (λ (k : KeptTreesValue). AreOfDatabase db k) (sym is) (record { areas = λ area. tt; spare = tt })
