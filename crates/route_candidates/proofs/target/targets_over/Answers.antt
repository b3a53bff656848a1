use Rattle.std.proofs.Common.{◌≡◌, ℕ, Bool, true, false, cond, eqb, List, Option, IfOk, sym, ap, subst, ◌∙◌}
use Rattle.std.specs.Option.{option_copied}
use Rattle.lsa_codec.specs.Views.{forward_of}
use Rattle.lsa_codec.specs.declared.address.Addr.{Addr}
use Rattle.area_candidates.specs.Views.{AreaViewValue, area_views}
use Rattle.area_routes.specs.Values.{EntryValue}
use Rattle.external_routes.specs.Choose.{forward_match}
use Rattle.route_candidates.specs.RouterViews.{InsideValue, inside_of}
use Rattle.route_candidates.specs.Targets.{boundary_targets, forward_targets, targets_over}
use Rattle.route_candidates.specs.declared.target.Target.{Target}
use Rattle.route_candidates.proofs.target.targets_over.Goals as goal

pub returns-then-eq : goal.returns-then-eq
returns-then-eq g c =
    let view = c.args.view.now in
    let lsa = c.args.lsa.now in
    let inside : InsideValue = inside_of view.db view.router in
    let entry : EntryValue = c.in-Some.entry.now in
    let address : Addr = record { 0 = forward_of lsa } in
    let zero : List Target = boundary_targets (area_views view.db view.router) entry in
    let other : List Target = forward_targets view (forward_match inside.routes address) in
    let test : eqb (forward_of lsa) 0 ≡ true = ap (λ (n : ℕ). eqb n 0) (sym c.forward-forward.ensures) ∙ sym c.eq.ensures ∙ c.if-eq.true in
    let same : boundary_targets c.areas.result.now entry ≡ targets_over view inside lsa (option_copied c.args.entry) =
    ap (λ (vs : List AreaViewValue). boundary_targets vs entry) c.areas.ensures
    ∙ sym (ap (λ (b : Bool). cond b zero other) test)
    ∙ ap (λ (o : Option EntryValue). targets_over view inside lsa o) (sym (ap option_copied c.in-Some.is)) in
    subst (λ (ts : List Target). IfOk c.boundary_targets.result (λ found. found.items ≡ ts)) same c.boundary_targets.ensures

pub returns : goal.returns
returns g c =
    let view = c.args.view.now in
    let lsa = c.args.lsa.now in
    let inside : InsideValue = inside_of view.db view.router in
    let entry : EntryValue = c.in-Some.entry.now in
    let address : Addr = record { 0 = forward_of lsa } in
    let zero : List Target = boundary_targets (area_views view.db view.router) entry in
    let other : List Target = forward_targets view (forward_match inside.routes address) in
    let test : eqb (forward_of lsa) 0 ≡ false = ap (λ (n : ℕ). eqb n 0) (sym c.forward-forward.ensures) ∙ sym c.eq.ensures ∙ c.if-eq.false in
    let same : forward_targets view (option_copied c.forward_match.result) ≡ targets_over view inside lsa (option_copied c.args.entry) =
    ap (forward_targets view) c.forward_match.ensures.route
    ∙ ap (λ (v : InsideValue). forward_targets view (forward_match v.routes c.forward-forward.result)) c.inside.ensures
    ∙ ap (λ (n : ℕ). forward_targets view (forward_match inside.routes (record { 0 = n }))) c.forward-forward.ensures
    ∙ sym (ap (λ (b : Bool). cond b zero other) test)
    ∙ ap (λ (o : Option EntryValue). targets_over view inside lsa o) (sym (ap option_copied c.in-Some.is)) in
    subst (λ (ts : List Target). IfOk c.forward_targets.result (λ found. found.items ≡ ts)) same c.forward_targets.ensures
