use Rattle.std.proofs.Common.{◌≡◌, ◌∙◌, List, ◌∷◌, ◌++◌, [], None, sym, ap, subst}
use Rattle.std.specs.Prelude.{reverse}
use Rattle.microloops.specs.steps.Groups.{GroupValue, Lacks}
use Rattle.microloops.specs.steps.Searching.{IsNext, IsSearch, SearchValue, with_last}
use Rattle.microloops.proofs.Members.{last_first, state, with_groups}
use Rattle.microloops.proofs.Paths.{next_found, sends, stepped}
use Rattle.microloops.proofs.search.Search.follow.Goals as goal

pub returns-then-contains-clause-found : goal.returns-then-contains-clause-found
returns-then-contains-clause-found g c = λ next is.
    let s = state c.self.inside.unseen c.self.inside.on_path c.self.inside.path.items c.self.inside.loops.entries in
    let last : GroupValue = record { routers = c.last.inside.routers; pending = c.pop.new.self.items; is_loop = c.last.inside.is_loop } in
    let before = subst (λ (x : SearchValue). IsSearch next None (with_last c.args.last x)) (sym c.self.view_is) is in
    let same = ap (λ (l : GroupValue). l.routers) c.last.view_is in
    let pending : c.args.last.pending ≡ last.pending ++ c.in-Some.target ∷ [] = sym (ap (λ (l : GroupValue). l.pending) c.last.view_is) ∙ c.in-Some.ensures.items in
    let flag = ap (λ (l : GroupValue). l.is_loop) c.last.view_is in
    subst (λ (gs : List GroupValue). IsNext next c.in-Some.target (with_groups c.self.inside.unseen c.self.inside.on_path gs c.self.inside.loops.entries))
    (sym (ap (λ (gs : List GroupValue). reverse gs) c.in_ok-push.ensures.items ∙ last_first c.self.inside.path.items last))
    (next_found next s last c.in-Some.target (stepped next s c.args.last last c.in-Some.target same pending flag before)
    (sends next s c.args.last last c.in-Some.target same pending flag before) (sym c.contains.ensures ∙ c.if-contains.true))

pub returns-clause-found : goal.returns-clause-found
returns-clause-found g c = λ next is.
    let s : SearchValue = c.args.self.now in
    let last : GroupValue = record { routers = c.last.inside.routers; pending = c.pop.new.self.items; is_loop = c.last.inside.is_loop } in
    let same = ap (λ (l : GroupValue). l.routers) c.last.view_is in
    let pending : c.args.last.pending ≡ last.pending ++ c.in-Some.target ∷ [] = sym (ap (λ (l : GroupValue). l.pending) c.last.view_is) ∙ c.in-Some.ensures.items in
    let flag = ap (λ (l : GroupValue). l.is_loop) c.last.view_is in
    let closed = c.in_ok-joined.ensures.search next (stepped next s c.args.last last c.in-Some.target same pending flag is)
    (sends next s c.args.last last c.in-Some.target same pending flag is)
    (subst (λ (x : SearchValue). Lacks x.unseen c.in-Some.target) c.self.view_is (sym c.contains.ensures ∙ c.if-contains.false)) in
    subst (λ (gs : List GroupValue). IsSearch next None (with_groups c.self-2.inside.unseen c.self-2.inside.on_path gs c.self-2.inside.loops.entries))
    (sym (ap (λ (gs : List GroupValue). reverse gs) c.in_ok-push-2.ensures.items ∙ last_first c.self-2.inside.path.items c.in_ok-joined.joined))
    (subst (λ (x : SearchValue). IsSearch next None (with_last c.in_ok-joined.joined x)) (sym c.self-2.view_is) closed)
