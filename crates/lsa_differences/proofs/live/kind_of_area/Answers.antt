use Rattle.std.proofs.Common.{Some, None, sym, ◌∙◌}
use Rattle.lsdb.specs.Slots.{lists_of}
use Rattle.lsa_differences.proofs.LiveParts.{kind_at, no_kind}
use Rattle.lsa_differences.proofs.live.kind_of_area.Goals as goal

pub returns-in_err-index : goal.returns-in_err-index
returns-in_err-index g c = c.from_residual.ensures ∙ sym (no_kind c.args.area (lists_of c.args.database.now) c.in_err-index.ensures)

pub returns-in_err-_id : goal.returns-in_err-_id
returns-in_err-_id g c =
    c.from_residual-in_err-_id.ensures ∙ kind_at c.args.database.now c.in_ok-index.index c.args.area None c.in_ok-index.ensures c.in_err-_id.ensures

pub returns : goal.returns
returns g c =
    kind_at c.args.database.now c.in_ok-index.index c.args.area (Some (c.in_ok-_id._id, c.in_ok-_id.is_stub)) c.in_ok-index.ensures c.in_ok-_id.ensures
