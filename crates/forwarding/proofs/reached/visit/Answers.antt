use Rattle.std.proofs.Common.{◌∙◌, [], ◌∷◌, ◌++◌, List, append_assoc, take, get_or, sym, ap}
use Rattle.std.specs.BTreeSet.{insert_key}
use Rattle.std.proofs.lemmas.List.{take_more}
use Rattle.lsa_codec.specs.Order.{router_cmp}
use Rattle.lsa_codec.specs.declared.address.RouterId.{RouterId}
use Rattle.lsa_codec.proofs.OrderLemmas.{router_exact, router_total}
use Rattle.area_graph.specs.Rising.{rising}
use Rattle.hop_ends.proofs.RisingMembersLemmas.{insert_last}
use Rattle.forwarding.proofs.reached.visit.Goals as goal

abbrev no_router : RouterId
no_router = record { 0 = 0 }

pub loop-router-preserved : goal.loop-router-preserved
loop-router-preserved g c =
    let level = c.args.level.now in
    let i = c.loop-router.router-index in
    let router = get_or level i no_router in
    let old = c.args.reached.now.items in
    record {
      reached = c.in_ok-push.ensures.items ∙ ap (λ (l : List RouterId). l ++ router ∷ []) c.loop-router.invariant.reached
          ∙ append_assoc old (take i level) (router ∷ [])
          ∙ ap (λ (l : List RouterId). old ++ l) (sym (take_more level i no_router c.loop-router-test.true));
      seen = λ set. c.in_ok-insert.ensures.keys ∙ ap (λ (ks : List RouterId). insert_key router_cmp ks router) (c.loop-router.invariant.seen set)
          ∙ insert_last router_total router_exact c.loop-router.reached.items router
          ∙ ap (rising router_cmp) (sym c.in_ok-push.ensures.items);
    }
