use Rattle.std.proofs.Common.{◌≡◌, ◌∙◌, [], ◌∷◌, ◌++◌, List, ap, subst}
use Rattle.std.specs.Prelude.{IfOk}
use Rattle.std.specs.Option.{option_copied}
use Rattle.lsa_codec.specs.declared.address.RouterId.{RouterId}
use Rattle.change_lines.specs.ChangeTexts.{ChangesValue}
use Rattle.change_lines.specs.declared.change_name.ChangeName.{ChangeName}
use Rattle.forwarding.specs.Graphs.{routers_of, routes_at}
use Rattle.comparison.specs.Compared.{RouterCompared}
use Rattle.comparison.specs.Named.{changes_for, names_by}
use Rattle.comparison.proofs.Outlines.{for_one}
use Rattle.comparison.proofs.router_comparison.RouterComparison.changes.Goals as goal

pub returns : goal.returns
returns g c =
    let one = c.args.self.now in
    let now = c.self.inside.present in
    let was = option_copied c.routes-was.result in
    let is = option_copied c.routes-now.result in
    let both = c.databases-both.result in
    subst (λ (v : ChangesValue). IfOk c.by_group.result (λ changes. changes ≡ v))
    (for_one one.both both one.router c.router-router.result was is c.deref.result.now c.in_ok-unchanged.unchanged c.databases-both.ensures
    (c.router-router.ensures ∙ ap (λ (v : RouterCompared). v.router) c.self.view_is)
    (c.routes-was.ensures ∙ ap (λ (v : RouterCompared). routes_at (routers_of v.both.baseline) v.router) c.self.view_is)
    (c.routes-now.ensures ∙ ap (λ (r : RouterId). routes_at (routers_of now.db) r) c.self.invariant
    ∙ ap (λ (v : RouterCompared). routes_at (routers_of v.both.present) v.router) c.self.view_is)
    (c.deref.ensures.value ∙ c.in_ok-unchanged.ensures.names
    ∙ ap (λ (l : List ChangeName). l ++ names_by both c.router-router.result was is) c.new-names.ensures.items)
    c.in_ok-unchanged.ensures.unchanged)
    c.by_group.ensures
