use Rattle.std.proofs.Common.{ℕ, ◌++◌, List, [], ◌∷◌, Bor, map, append_assoc, sym, ap, ◌∙◌}
use Rattle.std.specs.List.{cons_option, filter_map}
use Rattle.std.proofs.lemmas.Iterator.Consumers.{YieldsList-end, YieldsList-from_first}
use Rattle.std.proofs.lemmas.List.{append-nil, map-append}
use Rattle.area_routes.proofs.AddsLemmas.{filter_map_adds}
use Rattle.route_candidates.specs.Targets.{border_target}
use Rattle.route_candidates.specs.declared.target.Target.{Target}
use Rattle.route_candidates.proofs.target.push_borders_of.Goals as goal

pub loop-lsa-init : goal.loop-lsa-init
loop-lsa-init g c = sym (append-nil c.args.targets.now.items)

pub loop-lsa-preserved : goal.loop-lsa-preserved
loop-lsa-preserved g c =
    let target = border_target c.args.view.now c.args.entry.now in
    let now = λ (lsa : Bor (List ℕ)). lsa.now in
    let start = c.args.targets.now.items in
    let one = cons_option (target c.in-Some.lsa.now) [] in
    c.in_ok-push_border_target.ensures
    ∙ ap (λ (ts : List Target). ts ++ one) c.loop-lsa.invariant
    ∙ append_assoc start (filter_map target (map now c.loop-lsa.yielded)) one
    ∙ ap (λ (ts : List Target). start ++ ts)
    (sym ((filter_map_adds target).push (map now c.loop-lsa.yielded) c.in-Some.lsa.now)
    ∙ ap (filter_map target) (sym (map-append now c.loop-lsa.yielded (c.in-Some.lsa ∷ []))))

pub returns : goal.returns
returns g c =
    let seen = YieldsList-end (YieldsList-from_first (λ (lsa : Bor (List ℕ)). lsa.now) (λ s. s) c.args.lsas
    c.into_iter-lsa-iterator.ensures.into_iter_gives) c.loop-lsa.yielded _ c.loop-lsa.yielded_by _ _ c.in-None.is c.next.ensures.steps in
    c.loop-lsa.invariant
    ∙ ap (λ (l : List (List ℕ)). c.args.targets.now.items ++ filter_map (border_target c.args.view.now c.args.entry.now) l) seen.0
