use Rattle.std.proofs.Common.{◌≡◌, ◌+◌, ◌∙◌, Bool, true, false, cond, None, List, length, refl, sym, ap, subst}
use Rattle.std.specs.Prelude.{reverse}
use Rattle.microloops.specs.steps.Groups.{GroupValue, Has}
use Rattle.microloops.specs.steps.Searching.{IsNext, IsSearch, SearchValue}
use Rattle.microloops.proofs.Members.{has_one, last_first, only_one, state, with_groups}
use Rattle.microloops.proofs.Paths.{search_begun}
use Rattle.microloops.proofs.search.Search.begin.Goals as goal

pub returns-clause-search : goal.returns-clause-search
returns-clause-search g c = λ next pending is.
    let before = state c.self.inside.unseen c.self.inside.on_path c.self.inside.path.items c.self.inside.loops.entries in
    let alone : GroupValue = record { routers = c.in_ok-from_array.field-0; pending = c.args.targets.items; is_loop = false } in
    let now : IsNext next c.args.router before = subst (λ (s : SearchValue). IsNext next c.args.router s) (sym c.self.view_is) is in
    subst (λ (gs : List GroupValue). IsSearch next None (with_groups c.remove.new.self c.insert.new.self gs c.self.inside.loops.entries))
    (sym (ap (λ (gs : List GroupValue). reverse gs) c.in_ok-push.ensures.items ∙ last_first c.self.inside.path.items alone))
    (search_begun next before c.args.router c.remove.new.self c.insert.new.self alone c.remove.ensures.updates c.in_ok-insert.ensures.updates
    (only_one c.in_ok-from_array.field-0 c.args.router c.in_ok-from_array.ensures.ok.0)
    (has_one c.in_ok-from_array.field-0 c.args.router c.in_ok-from_array.ensures.ok.0) pending refl now)

pub returns-clause-fewer : goal.returns-clause-fewer
returns-clause-fewer g c = λ has.
    let was : c.remove.result ≡ true = c.remove.ensures.test ∙ subst (λ (s : SearchValue). Has s.unseen c.args.router) (sym c.self.view_is) has in
    ap (λ (b : Bool). length c.remove.new.self.keys + cond b 1 0) (sym was) ∙ c.remove.ensures.len
    ∙ ap (λ (s : SearchValue). length s.unseen.keys) c.self.view_is
