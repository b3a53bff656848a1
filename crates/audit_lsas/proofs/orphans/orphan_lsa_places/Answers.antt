use Rattle.std.proofs.Common.{◌∙◌, List, ap}
use Rattle.std.proofs.lemmas.Result.{IfOk-weaker}
use Rattle.lsa_codec.specs.declared.address.RouterId.{RouterId}
use Rattle.lsdb.specs.Slots.{lists_of}
use Rattle.audit_lsas.specs.Found.{lsa_places}
use Rattle.audit_lsas.specs.Orphans.{is_orphan}
use Rattle.audit_lsas.proofs.orphans.orphan_lsa_places.Goals as goal

pub returns : goal.returns
returns g c =
    let db = lists_of c.args.database.now in
    IfOk-weaker c.lsa_places.result _ _
    (λ places is. is ∙ ap (λ (described : List RouterId). lsa_places (is_orphan db described) db) c.in_ok-described.ensures)
    c.lsa_places.ensures
