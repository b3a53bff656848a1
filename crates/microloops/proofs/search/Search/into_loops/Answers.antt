use Rattle.std.proofs.Common.{◌≡◌, List, sym, subst}
use Rattle.std.specs.Prelude.{reverse}
use Rattle.std.specs.BTreeMap.{values}
use Rattle.std.specs.List.{Contains}
use Rattle.std.proofs.lemmas.Result.{IfOk-weaker}
use Rattle.lsa_codec.specs.declared.address.RouterId.{RouterId}
use Rattle.microloops.specs.Changeover.{AreAllLoops}
use Rattle.microloops.specs.steps.Searching.{IsDone, SearchValue}
use Rattle.microloops.proofs.Loops.{all_loops}
use Rattle.microloops.proofs.Members.{state}
use Rattle.microloops.proofs.search.Search.into_loops.Goals as goal

pub returns : goal.returns
returns g c =
    let s = state c.self.inside.unseen c.self.inside.on_path c.self.inside.path.items c.self.inside.loops.entries in
    IfOk-weaker c.loops_of.result (λ found. found.items ≡ values c.self.inside.loops)
    (λ found. (next : RouterId → List RouterId) (routers : List RouterId) → ((v w : RouterId) → Contains (next v) w → Contains routers v)
    → IsDone next c.args.self → AreAllLoops next routers found.items)
    (λ found is next routers leads done. subst (λ (ls : List (List RouterId)). AreAllLoops next routers ls) (sym is)
    (all_loops next routers s leads (subst (λ (x : SearchValue). IsDone next x) (sym c.self.view_is) done)))
    c.loops_of.ensures
