use Rattle.std.proofs.Common.{◌&&◌, not, sym, ◌∙◌, rules}
use Rattle.lsdb.specs.Lists.{areas_of}
use Rattle.lsdb.specs.Slots.{lists_of}
use Rattle.area_routes.specs.Attached.{id_of, is_attached}
use Rattle.external_routes.proofs.AttachedAreas.{any_filter}
use Rattle.external_routes.proofs.areas.is_attached_outside_stubs.Goals as goal

pub returns : goal.returns
returns g c =
    let db = lists_of c.args.database.now in
    c.any_area.ensures (λ head. not head.is_stub && is_attached db (id_of head) c.args.router) (λ area is_stub answer says. search rules)
    ∙ sym (any_filter (λ head. not head.is_stub) (λ head. is_attached db (id_of head) c.args.router) (areas_of db))
