use Rattle.std.proofs.Common.{◌≡◌, ◌∙◌, ◌∷◌, [], ◌++◌, List, map, ap}
use Rattle.std.proofs.lemmas.List.{take_all}
use Rattle.area_routes.proofs.AddsLemmas.{adds_at, map_adds}
use Rattle.lsa_codec.specs.declared.address.RouterId.{RouterId}
use Rattle.loop_report.specs.Blackholes.{BlackholeValue, blackhole_at}
use Rattle.loop_report.proofs.blackhole.new_blackholes.Goals as goal

abbrev no_router : RouterId
no_router = record { 0 = 0 }

pub loop-router-preserved : goal.loop-router-preserved
loop-router-preserved g c =
    let blackhole : RouterId → BlackholeValue = blackhole_at c.args.net c.args.is.now in
    adds_at (map_adds blackhole) (λ (l : List BlackholeValue). c.loop-router.found.items ≡ l) (λ (l : List BlackholeValue). c.push.new.self.items ≡ l)
    c.deref-router-items.result.now c.loop-router.router-index no_router c.loop-router-test.true c.loop-router.invariant (λ l was.
    c.in_ok-push.ensures.items ∙ ap (λ (t : List BlackholeValue). t ++ c.in_ok-of.field-0 ∷ []) was
    ∙ ap (λ (b : BlackholeValue). l ++ b ∷ []) c.in_ok-of.ensures)

pub returns : goal.returns
returns g c =
    c.loop-router.invariant
    ∙ ap (λ (routers : List RouterId). map (blackhole_at c.args.net c.args.is.now) routers)
    (take_all c.loop-router.router-index c.deref-router-items.result.now c.loop-router-test.false ∙ c.deref-router-items.ensures.value
    ∙ c.in_ok-new_ones.ensures)
