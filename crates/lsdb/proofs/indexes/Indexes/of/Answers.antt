use Rattle.lsdb.proofs.indexes.Indexes.of.Goals as goal

pub returns : goal.returns
returns g c = record { keys = c.in_ok-of.ensures; routers = c.in_ok-of-2.ensures; prefixes = c.in_ok-of-3.ensures }
