use Rattle.frr_json.proofs.ParsedDocuments.{lsas_next, lsas_end}
use Rattle.frr_json.proofs.parsed_document.with_lsas.Goals as goal

pub lsas-preserved : goal.lsas-preserved
lsas-preserved g c =
    lsas_next c.lsas.parsed.items c.push.new.self.items _ c.args.table c.args.area c.args.items.now c.lsas.item-index c.item-item.result _
    c.lsas-test.true c.item-item.is c.in_ok-parsed_item.ensures c.in_ok-push.ensures.items c.lsas.invariant

pub returns : goal.returns
returns g c =
    lsas_end c.lsas.parsed.items _ c.args.table c.args.area c.args.items.now c.lsas.item-index c.lsas-test.false c.lsas.invariant
