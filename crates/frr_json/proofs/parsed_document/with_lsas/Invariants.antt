use Rattle.std.proofs.Common.{◌≡◌, ◌++◌, drop}
use Rattle.json.specs.Value.{items_view}
use Rattle.frr_json.specs.ParsedDocuments.{lsas_in}
use Rattle.frr_json.proofs.parsed_document.with_lsas.Given as goal

abbrev pub invariant-lsas : goal.invariant-lsas
invariant-lsas g l =
    l.parsed.items ++ lsas_in l.table l.area (items_view (drop l.item-index l.items))
    ≡ l.initial.parsed.items ++ lsas_in l.table l.area (items_view l.items)
