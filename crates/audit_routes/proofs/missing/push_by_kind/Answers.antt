use Rattle.std.proofs.Common.{◌≡◌, ◌∙◌, ◌++◌, Bool, List, ℕ, append_assoc, sym, ap}
use Rattle.std.proofs.lemmas.Result.{on_ok_weaker}
use Rattle.lsa_codec.specs.Prefix.{Net}
use Rattle.lsa_codec.specs.declared.address.RouterId.{RouterId}
use Rattle.lsdb.specs.declared.section.Section.TheVariants.{Area}
use Rattle.lsdb.specs.Lists.{lsas_of}
use Rattle.lsdb.specs.Slots.{lists_of}
use Rattle.audit_places.specs.Places.{PlaceValue}
use Rattle.audit_routes.specs.Missing.{announced_nets, missing_asbrs, missing_by_kind, missing_in_stub, missing_nets}
use Rattle.audit_routes.proofs.missing.push_by_kind.Goals as goal

-- what a router announces by LSAs
by_lsas : (router other : RouterId) (lsas others : List (List ℕ)) (nets : List Net) → nets ≡ announced_nets router lsas → router ≡ other → lsas ≡ others
    → nets ≡ announced_nets other others
by_lsas router other lsas others nets are same all =
    are ∙ ap (λ (r : RouterId). announced_nets r lsas) same ∙ ap (λ (l : List (List ℕ)). announced_nets other l) all

pub returns-then-is_stub : goal.returns-then-is_stub
returns-then-is_stub g c =
    let w = c.args.ways.now in
    let old : List PlaceValue = c.args.places.now.items in
    on_ok_weaker c.push_into_stub.result
    (λ h. h
    ∙ ap (λ (nets : List Net). old ++ missing_in_stub c.args.area w nets)
    (by_lsas _ w.router _ _ c.in_ok-nets.nets.keys c.in_ok-nets.ensures c.router.ensures c.lsas.ensures.lsas)
    ∙ ap (λ (b : Bool). old ++ missing_by_kind c.args.area w (lsas_of (Area c.args.area) (lists_of c.args.database.now)) b) (sym c.if-is_stub.true))
    c.push_into_stub.ensures

pub returns : goal.returns
returns g c =
    let w = c.args.ways.now in
    let old : List PlaceValue = c.args.places.now.items in
    let lsas : List (List ℕ) = lsas_of (Area c.args.area) (lists_of c.args.database.now) in
    on_ok_weaker c.push_asbrs.result
    (λ h. h
    ∙ ap (λ (l : List PlaceValue). l ++ missing_asbrs c.args.area w lsas)
    (c.in_ok-push_nets.ensures
    ∙ ap (λ (nets : List Net). old ++ missing_nets c.args.area w nets)
    (by_lsas _ w.router _ lsas c.in_ok-nets.nets.keys c.in_ok-nets.ensures c.router.ensures c.lsas.ensures.lsas))
    ∙ append_assoc old (missing_nets c.args.area w (announced_nets w.router lsas)) (missing_asbrs c.args.area w lsas)
    ∙ ap (λ (b : Bool). old ++ missing_by_kind c.args.area w lsas b) (sym c.if-is_stub.false))
    c.push_asbrs.ensures
