use Rattle.std.proofs.Common.{ℕ, List, Bor, length, sym, ◌∙◌}
use Rattle.std.specs.Prelude.{◌&&◌}
use Rattle.std.proofs.lemmas.Iterator.Consumers.{YieldsList-from_first, YieldsList-turn}
use Rattle.area_graph.specs.Area.{is_live, is_outranked_by}
use Rattle.area_graph.proofs.MemberLemmas.{In-from_Contains, In-list_any}
use Rattle.area_candidates.proofs.networks.is_outranked.Goals as goal

pub returns-then-outranks : goal.returns-then-outranks
returns-then-outranks g c =
    let lsas = c.args.lsas in
    let other = c.in-Some.other.now in
    let at = YieldsList-turn (YieldsList-from_first (λ (lsa : Bor (List ℕ)). lsa.now) (λ s. s) lsas
    c.into_iter-other-iterator.ensures.into_iter_gives) c.loop-other.yielded _ c.loop-other.yielded_by _ _ c.in-Some.other c.in-Some.is
    c.next.ensures.steps in
    sym (In-list_any (λ other. is_live other && is_outranked_by c.args.lsa.now other) lsas other
    (In-from_Contains lsas other (length c.loop-other.yielded, at.0, sym at.1)) (sym c.outranks.ensures ∙ c.if-outranks.true))
