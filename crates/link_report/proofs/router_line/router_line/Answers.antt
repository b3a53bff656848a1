use Rattle.std.proofs.Common.{◌∙◌, ap}
use Rattle.std.specs.Prelude.{count_by}
use Rattle.std.specs.List.{flat_map}
use Rattle.lsa_codec.specs.Links.{is_point_to_point, is_stub, is_transit, links_of}
use Rattle.lsdb.specs.Slots.{lists_of}
use Rattle.area_routes.specs.Entries.{bit_b, bit_e}
use Rattle.link_report.specs.Routers.{has_flag}
use Rattle.link_report.proofs.RouterValues.{router_is}
use Rattle.link_report.proofs.router_line.router_line.Goals as goal

pub returns : goal.returns
returns g c =
    router_is (lists_of c.args.database.now) c.args.router c.args.areas.now _ c.in_ok-lsas.lsas.items c.in_ok-links.links.items _ _ _ _ _ c.requires
    c.in_ok-areas_of_router.ensures c.in_ok-lsas.ensures (c.in_ok-links.ensures ∙ ap (flat_map links_of) c.deref.ensures.value)
    (c.has_flag.ensures ∙ ap (has_flag bit_b) c.deref-2.ensures.value) (c.has_flag-2.ensures ∙ ap (has_flag bit_e) c.deref-3.ensures.value)
    (c.count_links.ensures ∙ ap (count_by (λ link. is_point_to_point link.kind)) c.deref-4.ensures.value)
    (c.count_transit.ensures ∙ ap (count_by (λ link. is_transit link.kind)) c.deref-5.ensures.value)
    (c.count_stubs.ensures ∙ ap (count_by (λ link. is_stub link.kind)) c.deref-6.ensures.value)
