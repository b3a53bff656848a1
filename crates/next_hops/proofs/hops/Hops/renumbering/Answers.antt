use Rattle.std.proofs.Common.{◌≡◌, ◌≤◌, ◌∙◌, ◌<◌, ℕ, List, [], length, get_or, sym, ap, subst, arith}
use Rattle.std.specs.List.{All}
use Rattle.std.proofs.lemmas.List.{get_or-map, length-map, take_all}
use Rattle.std.proofs.lemmas.List.Elements.{All-push}
use Rattle.next_hops.specs.declared.hop.Hop.{Hop}
use Rattle.next_hops.specs.Hop.{IsSortedHops}
use Rattle.next_hops.specs.steps.Shared.{AreWithin, list_in, lists_in}
use Rattle.next_hops.proofs.Keeping.{AreWithin-kept, All-sorted_lists_in}
use Rattle.next_hops.proofs.Sharing.{lists_in-push}
use Rattle.next_hops.proofs.hops.Hops.renumbering.Goals as goal

pub loop-number-preserved : goal.loop-number-preserved
loop-number-preserved g c =
    let lists = c.args.lists.now.keys in
    let old = c.loop-number.renumbered.lists.items in
    let new = c.number_of.new.self.lists.items in
    let short = c.loop-number.short.items in
    let i = c.loop-number.number-index in
    let n = c.in_ok-number_of.field-0 in
    let numbers = c.args.numbers.now in
    let table : List (List Hop) = lists_in lists numbers in
    let keeps = c.in_ok-number_of.ensures.keeps in
    let within : i < length table = subst (λ (m : ℕ). i < m) (sym (length-map numbers (λ m. list_in lists m))) c.loop-number-test.true in
    let next : list_in new n ≡ get_or table i [] = c.in_ok-number_of.ensures.list
    ∙ sym (get_or-map (λ m. list_in lists m) numbers i 0 [] c.loop-number-test.true) in
    record {
      renumbered = c.in_ok-number_of.ensures.renumbered;
      few = (let more = c.in_ok-number_of.ensures.few in let fewer = c.loop-number.invariant.few in omega arith);
      within = subst (λ (xs : List ℕ). AreWithin new xs) (sym c.in_ok-push.ensures.items)
          (All-push (λ m. m < length new) short n (AreWithin-kept old new keeps short c.loop-number.invariant.within) c.in_ok-number_of.ensures.within);
      same = ap (λ (xs : List ℕ). lists_in new xs) c.in_ok-push.ensures.items
          ∙ lists_in-push old new short n i table keeps c.loop-number.invariant.within within c.loop-number.invariant.same next;
    }

pub invariant_of-result : goal.invariant_of-result
invariant_of-result g c =
    let lists = c.args.lists.now.keys in
    let numbers = c.args.numbers.now in
    let i = c.loop-number.number-index in
    let table : List (List Hop) = lists_in lists numbers in
    let past : length table ≤ i = subst (λ (m : ℕ). m ≤ i) (sym (length-map numbers (λ m. list_in lists m))) c.loop-number-test.false in
    subst (λ (xs : List (List Hop)). All (λ (hops : List Hop). IsSortedHops hops) xs) (sym (c.loop-number.invariant.same ∙ take_all i table past))
    (All-sorted_lists_in lists c.requires.sorted numbers c.requires.within)
