use Rattle.std.proofs.Common.{◌≡◌, Some, sym, ap, ◌∙◌}
use Rattle.std.specs.List.{find}
use Rattle.lsa_codec.specs.declared.key.Key.{Key}
use Rattle.lsdb.specs.declared.section.Section.TheVariants.{Area}
use Rattle.lsdb.specs.Lists.{has_key, lsas_of}
use Rattle.lsdb.specs.Slots.{lists_of, slot_at}
use Rattle.link_report.specs.AnyAge.{router_lsa_of_any_age}
use Rattle.link_report.proofs.ByKey.{held_is, is_router_lsa, viewed_router}
use Rattle.link_report.proofs.ages.router_lsa_of_any_age.Goals as goal

pub returns : goal.returns
returns g c =
    let db = c.args.database.now in
    let lsa = c.in_ok-lsa.lsa.now in
    let found : router_lsa_of_any_age (lists_of db) c.args.area c.args.router ≡ Some lsa =
    ap (λ (key : Key). find (has_key key) (lsas_of (Area c.args.area) (lists_of db))) (sym c.of_router.ensures)
    ∙ held_is (slot_at db c.in_ok-slot.slot) (find (has_key c.of_router.result) (lsas_of (Area c.args.area) (lists_of db))) lsa c.in_ok-slot.ensures.held c.in_ok-lsa.ensures in
    viewed_router c.router.result lsa c.router.ensures (is_router_lsa c.args.router (lsas_of (Area c.args.area) (lists_of db)) lsa found) ∙ sym found
