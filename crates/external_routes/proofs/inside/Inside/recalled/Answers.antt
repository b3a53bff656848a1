use Rattle.std.proofs.Common.{◌≡◌, ℕ, ◌<◌, ◌^◌, Some, get_or, sym, ap, ◌∙◌, arith}
use Rattle.std.specs.List.{slice_get}
use Rattle.std.specs.Option.{option_copied}
use Rattle.std.proofs.lemmas.Bool.{eqb-true}
use Rattle.area_routes.specs.Values.{EntryValue}
use Rattle.external_routes.specs.Choose.{is_asbr, preference, preferred}
use Rattle.external_routes.specs.steps.Lookup.{WaysInside}
use Rattle.external_routes.proofs.First.{first_all}
use Rattle.external_routes.proofs.Items.{item_found}
use Rattle.external_routes.proofs.inside.Inside.recalled.Given as given
use Rattle.external_routes.proofs.inside.Inside.recalled.Goals as goal

-- the entry that is remembered is the router's preferred one
is_preferred : (g : given.Over) (c : goal.Then-eq g) → Some c.in_ok-entry.entry.now ≡ preferred c.self.inside.entries.now c.args.asbr
is_preferred g c =
    let entries = c.self.inside.entries.now in
    let place = c.place_of.result in
    let e : EntryValue = c.in_ok-entry.entry.now in
    let index = get_or c.self.inside.remembered place 0 in
    let at : slice_get entries index ≡ Some e = sym (item_found entries index c.get.result c.get.ensures.lookup.0 c.get.ensures.lookup.1) ∙ ap option_copied c.in_ok-entry.was in
    let own : e.router ≡ c.args.asbr =
    sym (ap (λ (x : EntryValue). x.router) c.entry.view_is)
    ∙ ap (λ (n : ℕ). record { 0 = n }) (eqb-true c.entry.inside.router.0 c.args.asbr.0 (sym c.eq.ensures ∙ c.if-eq.true)) in
    c.self.invariant.remembers place 0 (omega (arith, c.place_of.ensures, c.self.invariant.room)) e at ∙ ap (preferred entries) own

pub returns-then-eq-clause-entry : goal.returns-then-eq-clause-entry
returns-then-eq-clause-entry g c = is_preferred g c ∙ ap (λ (w : WaysInside). preferred w.entries c.args.asbr) c.self.view_is

pub returns-then-eq-clause-small : goal.returns-then-eq-clause-small
returns-then-eq-clause-small g c =
    first_all preference (λ e. e.cost < 2 ^ 34) (is_asbr c.args.asbr) c.self.inside.entries.now c.in_ok-entry.entry.now c.self.invariant.below.entries (is_preferred g c)
