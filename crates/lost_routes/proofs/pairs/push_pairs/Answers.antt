use Rattle.std.proofs.Common.{◌≡◌, ◌∙◌, [], ◌∷◌, ◌++◌, List, append_assoc, refl, ap}
use Rattle.std.proofs.lemmas.List.{take_all}
use Rattle.lsa_codec.specs.Prefix.{Net}
use Rattle.area_routes.proofs.AddsLemmas.{adds_start, adds_step, map_adds}
use Rattle.lost_routes.specs.declared.pairs.RouterPrefix.{RouterPrefix}
use Rattle.lost_routes.specs.LostPairs.{pairs_of}
use Rattle.lost_routes.proofs.pairs.push_pairs.Goals as goal

pub loop-net-init : goal.loop-net-init
loop-net-init g c =
    let pair : Net → RouterPrefix = λ net. record { router = c.args.router; net = net } in
    adds_start (map_adds pair) (λ (cs : List RouterPrefix). c.args.pairs.now.items ≡ cs) c.args.nets.now c.args.pairs.now.items refl

pub loop-net-preserved : goal.loop-net-preserved
loop-net-preserved g c =
    let pair : Net → RouterPrefix = λ net. record { router = c.args.router; net = net } in
    let start = c.args.pairs.now.items in
    adds_step (map_adds pair) (λ (cs : List RouterPrefix). c.loop-net.pairs.items ≡ start ++ cs) (λ (cs : List RouterPrefix). c.push.new.self.items ≡ start ++ cs)
    c.args.nets.now c.loop-net.net-index c.net-item.result c.loop-net-test.true c.net-item.is c.loop-net.invariant (λ cs was.
    c.in_ok-push.ensures.items ∙ ap (λ (l : List RouterPrefix). l ++ pair c.net-item.result ∷ []) was
    ∙ append_assoc start cs (pair c.net-item.result ∷ []))

pub returns : goal.returns
returns g c =
    c.loop-net.invariant
    ∙ ap (λ (nets : List Net). c.args.pairs.now.items ++ pairs_of c.args.router nets) (take_all c.loop-net.net-index c.args.nets.now c.loop-net-test.false)
