use Rattle.std.proofs.Common.{arith}
use Rattle.lsa_codec.specs.Order.{key_cmp, router_cmp}
use Rattle.lsdb.specs.steps.IndexKeys.{origin_cmp, own_key, own_origin, own_router}
use Rattle.lsdb.proofs.SlotIndexes.{kept}
use Rattle.lsdb.proofs.indexes.Indexes.clone_of.Goals as goal

pub returns : goal.returns
returns g c = λ slots few indexed.
    let keys = c.in_ok-clone_of.ensures in
    let routers = c.in_ok-clone_of-2.ensures in
    let prefixes = c.in_ok-clone_of-3.ensures in
    record {
      keys = kept key_cmp own_key slots c.args.self.now.keys c.in_ok-clone_of.field-0 keys.same keys.latest (omega (arith, few, keys.room)) indexed.keys;
      routers =
          kept router_cmp own_router slots c.args.self.now.routers c.in_ok-clone_of-2.field-0 routers.same routers.latest
          (omega (arith, few, routers.room)) indexed.routers;
      prefixes =
          kept origin_cmp own_origin slots c.args.self.now.prefixes c.in_ok-clone_of-3.field-0 prefixes.same prefixes.latest
          (omega (arith, few, prefixes.room)) indexed.prefixes;
    }
