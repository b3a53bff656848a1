use Rattle.std.proofs.Common.{◌≡◌, List, ap, ◌∙◌}
use Rattle.std.specs.Prelude.{not}
use Rattle.std.specs.Cmp.Lexicographic.{pointwise}
use Rattle.lsa_codec.specs.declared.address.RouterId.{RouterId}
use Rattle.hop_ends.specs.Owners.{targets_of}
use Rattle.comparison.specs.Rerouted.{same_router}
use Rattle.comparison.proofs.rerouted.is_rerouted.Goals as goal

pub returns : goal.returns
returns g c =
    let both = c.args.both.now in
    let before : c.in_ok-before.before.items ≡ targets_of both.baseline c.args.router c.args.hop =
    c.in_ok-before.ensures both.baseline c.were.ensures in
    let now : c.in_ok-now.now.items ≡ targets_of both.present c.args.router c.args.hop =
    c.in_ok-now.ensures both.present c.are.ensures in
    ap not
    (c.are_same_routers.ensures
    ∙ ap (λ (l : List RouterId). pointwise same_router l c.as_slice-2.result.now) (c.as_slice.ensures.value ∙ before)
    ∙ ap (λ (l : List RouterId). pointwise same_router (targets_of both.baseline c.args.router c.args.hop) l) (c.as_slice-2.ensures.value ∙ now))
