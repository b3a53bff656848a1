use Rattle.std.proofs.Common.{◌≡◌, ◌∙◌, ◌<◌, ℕ, List, Some, length, sym, ap, subst}
use Rattle.std.specs.List.{All, slice_get}
use Rattle.std.proofs.lemmas.Option.{slice_get-get_or}
use Rattle.next_hops.specs.declared.hop.Hop.{Hop}
use Rattle.next_hops.specs.Hop.{IsSortedHops}
use Rattle.next_hops.specs.FirstHops.{hops_at}
use Rattle.next_hops.proofs.Sharing.{lists_in-at}
use Rattle.next_hops.proofs.hops.Hops.of.Goals as goal

pub returns-in-Some-clause-hops : goal.returns-in-Some-clause-hops
returns-in-Some-clause-hops g c =
    let lists = c.self.inside.lists.items in
    let number = c.index.result.now in
    let within = subst (λ (table : List (List Hop)). c.args.index < length table) (sym c.self.view_is) c.requires in
    let read = c.in-Some.ensures.lookup in
    let found : slice_get c.deref.result.now c.from-number.result ≡ Some c.in-Some.list.now =
    slice_get-get_or c.deref.result.now c.from-number.result c.in-Some.list.now read.3.0 ∙ ap (λ list. Some list) (sym read.1) in
    let at : slice_get lists number ≡ Some c.in-Some.list.now = subst (λ (n : ℕ). slice_get lists n ≡ Some c.in-Some.list.now) c.from-number.ensures
    (subst (λ xs. slice_get xs c.from-number.result ≡ Some c.in-Some.list.now) c.deref.ensures.value found) in
    c.deref-in-Some.ensures.value
    ∙ sym (lists_in-at lists c.self.inside.numbers.items c.args.index number c.in-Some.list.now within c.index.ensures at)
    ∙ ap (λ (table : List (List Hop)). hops_at table c.args.index) c.self.view_is

pub returns-in-Some-clause-sorted : goal.returns-in-Some-clause-sorted
returns-in-Some-clause-sorted g c =
    let all = subst (λ (table : List (List Hop)). All (λ (hops : List Hop). IsSortedHops hops) table) c.self.view_is c.self.invariant in
    subst (λ (hops : List Hop). IsSortedHops hops) (sym (returns-in-Some-clause-hops g c)) (all c.args.index _ c.requires)
