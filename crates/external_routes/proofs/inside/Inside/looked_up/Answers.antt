use Rattle.std.proofs.Common.{◌<◌, ◌^◌, Some, None, ap, ◌∙◌}
use Rattle.std.specs.Option.{option_copied}
use Rattle.std.proofs.Math.ListN.{length-set}
use Rattle.std.proofs.lemmas.List.Elements.{All-set}
use Rattle.external_routes.specs.Choose.{is_asbr, preference, preferred}
use Rattle.external_routes.specs.steps.Lookup.{IsPreferred, WaysInside}
use Rattle.external_routes.proofs.First.{first_has}
use Rattle.external_routes.proofs.Items.{item_found}
use Rattle.external_routes.proofs.Remembered.{mapped_at, preferred_at}
use Rattle.external_routes.proofs.inside.Inside.looked_up.Goals as goal

pub returns-in_err-index-clause-entry : goal.returns-in_err-index-clause-entry
returns-in_err-index-clause-entry g c =
    ap option_copied c.from_residual.ensures
    ∙ mapped_at c.self.inside.entries.now c.self.inside.asbrs c.args.asbr None c.self.invariant.mapped c.in_err-index.ensures.value
    ∙ ap (λ (w : WaysInside). preferred w.entries c.args.asbr) c.self.view_is

pub invariant_of-self : goal.invariant_of-self
invariant_of-self g c =
    let entries = c.self.inside.entries.now in
    let index = c.in_ok-index.field-0.now in
    record {
      below = c.self.invariant.below;
      marked = c.self.invariant.marked;
      mapped = c.self.invariant.mapped;
      room = length-set c.self.inside.remembered c.place_of.result index ∙ c.self.invariant.room;
      remembers = All-set (IsPreferred entries) c.self.inside.remembered c.place_of.result index
          (preferred_at entries c.args.asbr index
          (mapped_at entries c.self.inside.asbrs c.args.asbr (Some index) c.self.invariant.mapped c.in_ok-index.ensures.value)) c.self.invariant.remembers;
    }

pub returns-clause-entry : goal.returns-clause-entry
returns-clause-entry g c =
    let entries = c.self.inside.entries.now in
    let index = c.in_ok-index.field-0.now in
    item_found entries index c.get-2.result c.get-2.ensures.lookup.0 c.get-2.ensures.lookup.1
    ∙ mapped_at entries c.self.inside.asbrs c.args.asbr (Some index) c.self.invariant.mapped c.in_ok-index.ensures.value
    ∙ ap (λ (w : WaysInside). preferred w.entries c.args.asbr) c.self.view_is

pub returns-clause-small : goal.returns-clause-small
returns-clause-small g c =
    let entries = c.self.inside.entries.now in
    let index = c.in_ok-index.field-0.now in
    first_has preference (λ e. e.cost < 2 ^ 34) (is_asbr c.args.asbr) entries c.get-2.result c.self.invariant.below.entries
    (item_found entries index c.get-2.result c.get-2.ensures.lookup.0 c.get-2.ensures.lookup.1
    ∙ mapped_at entries c.self.inside.asbrs c.args.asbr (Some index) c.self.invariant.mapped c.in_ok-index.ensures.value)
