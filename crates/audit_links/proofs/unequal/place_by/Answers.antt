use Rattle.std.proofs.Common.{◌∙◌, ◌+◌, Bool, Option, None, Some, cond, sym, ap}
use Rattle.audit_places.specs.Places.{PlaceValue, unequal_cost}
use Rattle.audit_links.specs.Unequal.{place_of}
use Rattle.audit_links.proofs.unequal.place_by.Goals as goal

pub returns-then-not-is_unequal : goal.returns-then-not-is_unequal
returns-then-not-is_unequal g c =
    ap (λ (b : Bool). let some : Option PlaceValue = Some (place_of c.args.area.now c.args.router c.args.before c.args.own c.args.back.now) in cond b some None)
    (sym c.if-not-is_unequal.true ∙ c.is_unequal.ensures)

pub returns : goal.returns
returns g c =
    ap Some
    (c.place_of.ensures
    ∙ λ i. unequal_cost (c.area.ensures i) c.args.router (c.args.before + 1) (record { 0 = c.args.own.link.id.0 }) c.args.own.link.metric (c.in_ok-back.ensures i))
    ∙ ap (λ (b : Bool). let some : Option PlaceValue = Some (place_of c.args.area.now c.args.router c.args.before c.args.own c.args.back.now) in cond b some None)
    (sym c.if-not-is_unequal.false ∙ c.is_unequal.ensures)
