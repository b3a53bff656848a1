use Rattle.std.proofs.Common.{◌++◌, ◌∙◌, List, ℕ, ap}
use Rattle.std.specs.List.{filter_map}
use Rattle.std.proofs.lemmas.Result.{on_ok_weaker}
use Rattle.lsa_codec.specs.declared.address.RouterId.{RouterId}
use Rattle.area_routes.specs.Values.{EntryValue}
use Rattle.audit_routes.specs.Missing.{announced_asbrs, asbrs_of, missing_asbr}
use Rattle.audit_routes.proofs.missing_asbrs.push_asbrs.Goals as goal

pub returns : goal.returns
returns g c =
    let w = c.args.ways.now in
    let old = c.args.places.now.items in
    on_ok_weaker c.push_missing.result
    (λ h. h
    ∙ ap (λ (asbrs : List RouterId). old ++ filter_map (missing_asbr c.args.area w.router c.in_ok-announced.announced w.entries) asbrs)
    (c.deref.ensures.value ∙ c.in_ok-asbrs.ensures ∙ ap (λ (entries : List EntryValue). asbrs_of entries) (c.as_slice.ensures.entries ∙ c.entries.ensures))
    ∙ ap (λ (l : List RouterId). old ++ filter_map (missing_asbr c.args.area w.router l w.entries) (asbrs_of w.entries))
    (c.in_ok-announced.ensures ∙ ap (λ (router : RouterId). announced_asbrs router c.lsas-lsas.result) c.router.ensures
    ∙ ap (λ (l : List (List ℕ)). announced_asbrs w.router l) c.lsas-lsas.ensures.lsas))
    c.push_missing.ensures
