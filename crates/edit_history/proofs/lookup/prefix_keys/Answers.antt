use Rattle.std.proofs.Common.{◌≡◌, true, sym, subst}
use Rattle.lsa_codec.specs.declared.address.Addr.{Addr}
use Rattle.lsa_codec.specs.declared.key.Key.{Key}
use Rattle.lsdb.specs.KeyRanges.{HaveKeysBetween}
use Rattle.edit_history.specs.Effect.{is_originated_for}
use Rattle.edit_history.proofs.WantedKeys.{keys_of_prefix}
use Rattle.edit_history.proofs.lookup.prefix_keys.Goals as goal

pub returns : goal.returns
returns c =
    let high : Key = record { kind = c.args.kind; id = c.last_addr.result; adv = c.args.router } in
    subst (λ (addr : Addr). HaveKeysBetween (λ lsa. is_originated_for c.args.kind c.args.router c.args.prefix lsa ≡ true)
    (let low : Key = record { kind = c.args.kind; id = addr; adv = c.args.router } in low) high) (sym c.addr.ensures.addr)
    (keys_of_prefix c.args.kind c.args.router c.args.prefix c.last_addr.result c.last_addr.ensures)
