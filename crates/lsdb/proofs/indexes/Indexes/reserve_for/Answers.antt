use Rattle.std.proofs.Common.{Result, Ok, Err, arith}
use Rattle.std.specs.Prelude.{OnOk}
use Rattle.lsa_codec.specs.Order.{key_cmp, router_cmp}
use Rattle.lsdb.specs.steps.IndexKeys.{origin_cmp, own_key, own_origin, own_router}
use Rattle.lsdb.proofs.SlotIndexes.{kept, opened}
use Rattle.lsdb.proofs.indexes.Indexes.reserve_for.Goals as goal

-- what was reserved is of use only where all was
on_both : {T E : Type 0} {P Q R : Type 0} (r : Result T E) → OnOk r P → OnOk r Q → (P → Q → R) → OnOk r R
on_both (Ok x) p q f = f p q
on_both (Err e) p q f = tt

pub returns-in_err-reserve_for-clause-kept : goal.returns-in_err-reserve_for-clause-kept
returns-in_err-reserve_for-clause-kept g c = λ slots indexed.
    let keys = c.reserve_for.ensures in
    record {
      keys = kept key_cmp own_key slots c.args.self.now.keys c.reserve_for.new.self keys.same keys.latest (omega (arith, keys.kept, indexed.keys.fits)) indexed.keys;
      routers = indexed.routers;
      prefixes = indexed.prefixes;
    }

pub returns-in_err-reserve_for-2-clause-kept : goal.returns-in_err-reserve_for-2-clause-kept
returns-in_err-reserve_for-2-clause-kept g c = λ slots indexed.
    let keys = c.reserve_for.ensures in
    let routers = c.reserve_for-2.ensures in
    record {
      keys = kept key_cmp own_key slots c.args.self.now.keys c.reserve_for.new.self keys.same keys.latest (omega (arith, keys.kept, indexed.keys.fits)) indexed.keys;
      routers =
          kept router_cmp own_router slots c.args.self.now.routers c.reserve_for-2.new.self routers.same routers.latest
          (omega (arith, routers.kept, indexed.routers.fits)) indexed.routers;
      prefixes = indexed.prefixes;
    }

pub returns-clause-kept : goal.returns-clause-kept
returns-clause-kept g c = λ slots indexed.
    let keys = c.reserve_for.ensures in
    let routers = c.reserve_for-2.ensures in
    let prefixes = c.reserve_for-3.ensures in
    record {
      keys = kept key_cmp own_key slots c.args.self.now.keys c.reserve_for.new.self keys.same keys.latest (omega (arith, keys.kept, indexed.keys.fits)) indexed.keys;
      routers =
          kept router_cmp own_router slots c.args.self.now.routers c.reserve_for-2.new.self routers.same routers.latest
          (omega (arith, routers.kept, indexed.routers.fits)) indexed.routers;
      prefixes =
          kept origin_cmp own_origin slots c.args.self.now.prefixes c.reserve_for-3.new.self prefixes.same prefixes.latest
          (omega (arith, prefixes.kept, indexed.prefixes.fits)) indexed.prefixes;
    }

pub returns-clause-opened : goal.returns-clause-opened
returns-clause-opened g c =
    let keys = c.reserve_for.ensures in
    let routers = c.reserve_for-2.ensures in
    let prefixes = c.reserve_for-3.ensures in
    on_both c.reserve_for-3.result prefixes.room prefixes.narrow (λ room narrow slots less indexed. record {
      keys =
          opened key_cmp own_key slots c.args.self.now.keys c.reserve_for.new.self keys.same keys.latest (omega (arith, less, c.in_ok-reserve_for.ensures.room))
          (omega (arith, less, c.in_ok-reserve_for.ensures.narrow)) indexed.keys;
      routers =
          opened router_cmp own_router slots c.args.self.now.routers c.reserve_for-2.new.self routers.same routers.latest
          (omega (arith, less, c.in_ok-reserve_for-2.ensures.room)) (omega (arith, less, c.in_ok-reserve_for-2.ensures.narrow)) indexed.routers;
      prefixes =
          opened origin_cmp own_origin slots c.args.self.now.prefixes c.reserve_for-3.new.self prefixes.same prefixes.latest
          (omega (arith, less, room)) (omega (arith, less, narrow)) indexed.prefixes;
    })
