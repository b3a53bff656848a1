use Rattle.std.proofs.Common.{List, ap, filter, not, ◌∙◌}
use Rattle.std.specs.BTreeSet.{contains}
use Rattle.std.proofs.lemmas.List.Elements.{filter_agree}
use Rattle.std.proofs.lemmas.Result.{IfOk-weaker}
use Rattle.lsa_codec.specs.declared.address.RouterId.{RouterId}
use Rattle.lsa_codec.specs.Order.{router_cmp}
use Rattle.lsa_changes.specs.Changes.{is_member}
use Rattle.lsa_changes.proofs.members.only_in.Goals as goal

pub returns : goal.returns
returns g c =
    IfOk-weaker c.without.result _ _
    (λ left are. are
    ∙ filter_agree (λ (router : RouterId). not (contains router_cmp c.in_ok-others.others router)) (λ router. not (is_member c.args.others.now router))
    (λ router. ap not (c.in_ok-others.ensures.0 router)) c.deref.result.now
    ∙ ap (λ (routers : List RouterId). filter (λ router. not (is_member c.args.others.now router)) routers) (c.deref.ensures.value ∙ c.in_ok-routers.ensures))
    c.without.ensures
