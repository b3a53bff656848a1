use Rattle.std.proofs.Common.{[], ◌∷◌, ◌++◌, ◌∙◌, List, Option, map, sym, ap}
use Rattle.std.specs.List.{cons_option, filter_map}
use Rattle.std.proofs.lemmas.List.{map-append}
use Rattle.lsa_codec.specs.declared.address.RouterId.{RouterId}
use Rattle.area_routes.proofs.AddsLemmas.{filter_map_adds}
use Rattle.audit_lsas.specs.Orphans.{described_boundary}
use Rattle.audit_lsas.proofs.orphans.boundaries_in.Goals as goal

pub loop-lsa-preserved : goal.loop-lsa-preserved
loop-lsa-preserved g c =
    let so_far = map (λ lsa. lsa.now) c.loop-lsa.yielded in
    c.in_ok-push_some.ensures
    ∙ ap (λ (o : Option RouterId). c.loop-lsa.found.items ++ cons_option o []) c.described_boundary.ensures
    ∙ ap (λ (l : List RouterId). l ++ cons_option (described_boundary c.in-Some.lsa.now) []) c.loop-lsa.invariant
    ∙ sym (ap (filter_map described_boundary) (map-append (λ lsa. lsa.now) c.loop-lsa.yielded (c.in-Some.lsa ∷ []))
    ∙ (filter_map_adds described_boundary).push so_far c.in-Some.lsa.now)
