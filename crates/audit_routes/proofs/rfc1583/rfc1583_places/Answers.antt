use Rattle.std.proofs.Common.{◌∙◌, sym}
use Rattle.lsdb.specs.Slots.{lists_of}
use Rattle.routing_table.specs.Routers.{attached_routers}
use Rattle.audit_routes.proofs.NoExternals.{no_places}
use Rattle.audit_routes.proofs.rfc1583.rfc1583_places.Goals as goal

pub returns-then-count-eq0 : goal.returns-then-count-eq0
returns-then-count-eq0 g c =
    let db = lists_of c.args.database.now in
    c.new.ensures.items ∙ sym (no_places db (sym c.count.ensures ∙ c.if-count-eq0.true) (attached_routers db))
