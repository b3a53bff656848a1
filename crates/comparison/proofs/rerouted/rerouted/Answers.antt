use Rattle.std.proofs.Common.{◌≡◌, ◌∙◌, List, ap, subst}
use Rattle.std.specs.Prelude.{IfOk}
use Rattle.std.specs.List.{filter}
use Rattle.lsa_codec.specs.declared.address.RouterId.{RouterId}
use Rattle.next_hops.specs.declared.hop.Hop.{Hop}
use Rattle.comparison.specs.Rerouted.{hops_of, is_rerouted, rerouted}
use Rattle.comparison.proofs.rerouted.rerouted.Goals as goal

pub returns : goal.returns
returns g c =
    let both = c.args.both.now in
    let is = c.args.is.now in
    let hops : c.as_slice-2.result.now ≡ hops_of is.routes =
    c.as_slice-2.ensures.hops ∙ c.in_ok-hops.ensures ∙ ap hops_of (c.as_slice.ensures.routes ∙ c.routes.ensures) in
    let same : filter (is_rerouted both c.router.result) c.as_slice-2.result.now ≡ rerouted both is =
    ap (λ (r : RouterId). filter (is_rerouted both r) c.as_slice-2.result.now) c.router.ensures ∙ ap (filter (is_rerouted both is.router)) hops in
    subst (λ (l : List Hop). IfOk c.rerouted_among.result (λ found. found.items ≡ l)) same c.rerouted_among.ensures
