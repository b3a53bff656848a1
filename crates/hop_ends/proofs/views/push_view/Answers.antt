use Rattle.std.proofs.Common.{◌≡◌, [], ◌∷◌, List, ap, sym, subst}
use Rattle.std.specs.List.{All}
use Rattle.std.proofs.lemmas.List.Elements.{All-append, All-cons, All-nil}
use Rattle.lsdb.specs.Slots.{lists_of}
use Rattle.route_candidates.specs.RouterViews.{RouterViewValue}
use Rattle.hop_ends.proofs.views.push_view.Goals as goal

pub returns-in_ok-push : goal.returns-in_ok-push
returns-in_ok-push g c = λ all.
    let of_database : RouterViewValue → Type 0 = λ v. v.db ≡ lists_of c.args.database.now in
    let own : c.in_ok-of.field-0.db ≡ lists_of c.args.database.now = ap (λ (v : RouterViewValue). v.db) c.in_ok-of.ensures in
    subst (λ (l : List RouterViewValue). All of_database l) (sym c.in_ok-push.ensures.items)
    (All-append of_database c.args.views.now.items (c.in_ok-of.field-0 ∷ []) all
    (All-cons of_database c.in_ok-of.field-0 [] own (All-nil of_database)))
