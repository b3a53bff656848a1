use Rattle.std.proofs.Common.{subst, sym}
use Rattle.routing_table.specs.AreasTrees.{KeptTreesValue, AreOfDatabase}
use Rattle.forwarding.proofs.table_basis.TableBasis.new.Goals as goal

pub returns : goal.returns
returns g c = λ db. record {
  trees = subst (λ (kept : KeptTreesValue). AreOfDatabase db kept) (sym c.new.ensures) (record { areas = λ area. tt; spare = tt });
  externals = tt;
}
