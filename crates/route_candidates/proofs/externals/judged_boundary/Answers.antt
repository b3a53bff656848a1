use Rattle.std.proofs.Common.{◌≡◌, ℕ, Bool, false, cond, eqb, Option, sym, ap, ◌∙◌}
use Rattle.std.specs.Option.{option_copied}
use Rattle.lsa_codec.specs.Views.{forward_of}
use Rattle.lsa_codec.specs.declared.address.Addr.{Addr}
use Rattle.area_candidates.specs.declared.draft.Judged.{Judged}
use Rattle.area_routes.specs.Values.{EntryValue}
use Rattle.external_routes.specs.Choose.{entry_class, forward_match}
use Rattle.route_candidates.specs.Outside.{judged_boundary, judged_forward, judged_way}
use Rattle.route_candidates.proofs.externals.judged_boundary.Goals as goal

pub returns : goal.returns
returns g c =
    let lsa = c.args.lsa.now in
    let inside = c.args.inside.now in
    let is_inside = c.args.is_inside in
    let entry : EntryValue = c.in-Some.entry.now in
    let address : Addr = record { 0 = forward_of lsa } in
    let zero : Judged = judged_way is_inside lsa (entry_class entry) entry.cost in
    let other : Judged = judged_forward is_inside lsa (forward_match inside.routes address) in
    let test : eqb (forward_of lsa) 0 ≡ false = ap (λ (n : ℕ). eqb n 0) (sym c.forward-forward.ensures) ∙ sym c.eq.ensures ∙ c.if-eq.false in
    c.judged_forward.ensures
    ∙ ap (judged_forward is_inside lsa) c.forward_match.ensures.route
    ∙ ap (λ (n : ℕ). judged_forward is_inside lsa (forward_match inside.routes (record { 0 = n }))) c.forward-forward.ensures
    ∙ sym (ap (λ (b : Bool). cond b zero other) test)
    ∙ ap (λ (o : Option EntryValue). judged_boundary is_inside inside lsa o) (sym (ap option_copied c.in-Some.is))
