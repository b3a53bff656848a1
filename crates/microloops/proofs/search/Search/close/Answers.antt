use Rattle.std.proofs.Common.{◌≡◌, ◌∙◌, true, List, ◌∷◌, Some, refl, sym, ap, subst, arith}
use Rattle.std.specs.Prelude.{reverse}
use Rattle.microloops.specs.steps.Groups.{GroupValue, Has, Lacks}
use Rattle.microloops.specs.steps.Searching.{IsSearch, SearchValue, with_last}
use Rattle.microloops.proofs.Joining.{closed_up, closing_first, closing_more, less_more, not_ended}
use Rattle.microloops.proofs.Members.{last_first, nothing, state}
use Rattle.microloops.proofs.Paths.{skipped}
use Rattle.microloops.proofs.search.Search.close.Goals as goal

pub returns-then-not-contains-clause-search : goal.returns-then-not-contains-clause-search
returns-then-not-contains-clause-search g c = λ next is sends seen.
    skipped next c.args.target (with_last c.args.last c.args.self.now) is seen
    (subst (λ (s : SearchValue). Lacks s.on_path c.args.target) c.self.view_is (sym c.contains.ensures ∙ c.if-not-contains.true))

pub groups-preserved : goal.groups-preserved
groups-preserved g c =
    let s = state c.groups.self-inside.unseen c.groups.self-inside.on_path c.groups.self-inside.path.items c.groups.self-inside.loops.entries in
    let path : s.path ≡ c.in-Some.below ∷ reverse c.pop.new.self.items =
    ap (λ (gs : List GroupValue). reverse gs) c.in-Some.ensures.items ∙ last_first c.pop.new.self.items c.in-Some.below in
    let lacks : Lacks c.groups.last.routers c.args.target =
    subst (λ (l : GroupValue). Lacks l.routers c.args.target) c.last.view_is (sym c.contains-in-groups.ensures ∙ c.groups-test.true) in
    record {
      closing = λ next first. closing_more next c.args.target c.groups.last c.in-Some.below c.in_ok-last.last (reverse c.pop.new.self.items) s path
          (c.groups.invariant.closing next first) lacks c.in_ok-last.ensures;
      less = less_more c.groups.last c.in-Some.below c.in_ok-last.last (reverse c.pop.new.self.items) s.path _ path c.in_ok-last.ensures c.groups.invariant.less;
      unseen = c.groups.invariant.unseen;
    }

pub returns-in_default-clause-search : goal.returns-in_default-clause-search
returns-in_default-clause-search g c = λ next is sends seen.
    let before = state c.self.inside.unseen c.self.inside.on_path c.self.inside.path.items c.self.inside.loops.entries in
    let s = state c.groups.self-inside.unseen c.groups.self-inside.on_path c.groups.self-inside.path.items c.groups.self-inside.loops.entries in
    let first = closing_first next c.args.target c.args.last before (subst (λ (x : SearchValue). IsSearch next (Some c.args.target) (with_last c.args.last x)) (sym c.self.view_is) is)
    sends (sym c.contains.ensures ∙ c.if-not-contains.false) in
    absurd (not_ended next c.args.target c.groups.last s
    (ap (λ (gs : List GroupValue). reverse gs)
    (nothing c.groups.self-inside.path.items (omega (arith, c.in_default.ensures.cases.0, c.groups.self-inside.path.ok.0))))
    (c.groups.invariant.closing next first)
    (subst (λ (l : GroupValue). Lacks l.routers c.args.target) c.last.view_is (sym c.contains-in-groups.ensures ∙ c.groups-test.true)))

pub returns-clause-search : goal.returns-clause-search
returns-clause-search g c = λ next is sends seen.
    let before = state c.self.inside.unseen c.self.inside.on_path c.self.inside.path.items c.self.inside.loops.entries in
    let s = state c.groups.self-inside.unseen c.groups.self-inside.on_path c.groups.self-inside.path.items c.groups.self-inside.loops.entries in
    let last : GroupValue = record { routers = c.last.inside.routers; pending = c.last.inside.pending.items; is_loop = true } in
    let first = closing_first next c.args.target c.args.last before (subst (λ (x : SearchValue). IsSearch next (Some c.args.target) (with_last c.args.last x)) (sym c.self.view_is) is)
    sends (sym c.contains.ensures ∙ c.if-not-contains.false) in
    closed_up next c.args.target c.groups.last last s (ap (λ (l : GroupValue). l.routers) c.last.view_is) (ap (λ (l : GroupValue). l.pending) c.last.view_is) refl
    (c.groups.invariant.closing next first)
    (subst (λ (l : GroupValue). Has l.routers c.args.target) c.last.view_is (sym c.contains-in-groups.ensures ∙ c.groups-test.false))
